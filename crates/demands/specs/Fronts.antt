-- What an order opened, whatever comes behind it: it is what the masks and the states open that the calls return where
-- the script, or the job, ends with that order. Assumes nothing.
use Rattle.std.specs.Prelude.{◌≡◌, List, ◌++◌, ℕ, suc, ◌*◌, ◌<◌, length, take}
use Rattle.gates.specs.Steps.{Step}
use Rattle.jobs.specs.Job.{orders}
use Rattle.runs.specs.Runs.{Stage, Setting, altered, staged, World, opened_after, Accepted}
use Rattle.runs.specs.Orders.{order_of, opens, Finishes}
use Rattle.runs.specs.Returned.{opened_now}

-- S' is the front of S: the same lists and registers, and the steps with which those of S begin
pub record Front (S' S : Stage) : Type 0 where
  pub behind : List Step
  pub steps : S.script.steps ≡ S'.script.steps ++ behind
  pub A : S.A ≡ S'.A
  pub B : S.B ≡ S'.B
  pub rm : S.rm ≡ S'.rm
  pub r1 : S.r1 ≡ S'.r1
  pub r2 : S.r2 ≡ S'.r2

-- the same setting, with the job's orders up to order q and no more
abbrev pub up_to : Setting → (q : ℕ) → Setting
up_to S q = altered S (take (suc q * 4) S.job) S.A

pub record Fronts (w : ℕ) : Type 0 where
  -- of any script: order q opens in every slot what it opens where the script ends sooner
  pub same : (S' S : Stage) → Front S' S → (q : ℕ) (v v' : World) → Finishes w S q v
      → Finishes w S' q v' → (i : ℕ)
      → opened_after w v q i ≡ opened_after w v' q i
  -- of a job: so what demands 2 and 3 say of an order, a later order having written its target or not, they say of what
  -- the calls return for the job that ends with it
  pub as_last : (S : Setting) (q : ℕ) (v v' : World) → Finishes w (staged w S) q v
      → Finishes w (staged w (up_to S q)) q v'
      → opens w S v q ≡ opened_now w 16 v' (order_of S q).target
  -- which is accepted where the job is, so that there are such runs
  pub accepted : (S : Setting) (q : ℕ) (buffer : List ℕ) → q < length (orders S.job)
      → Accepted (staged w S) buffer
      → Accepted (staged w (up_to S q)) buffer
