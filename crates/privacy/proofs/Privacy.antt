-- R-8: one host alone learns nothing. Assumes nothing.
use mathlib.Core.Path.{sym, subst}
use Prim.Native.Nat.{ℕ}
use Rattle.jobs.specs.Job.{job_gates}
use Rattle.calls.specs.Scripts.{Script, job_script}
use Rattle.calls.proofs.Scripts.{job_made}
use Rattle.privacy.specs.Privacy.{NothingLearned, OfGates, Privacy}
use Rattle.privacy.proofs.Walks.{All}
use Rattle.privacy.proofs.Solving.{Sound}
use Rattle.privacy.proofs.Steps.{gates_sound}
use Rattle.privacy.proofs.HiddenRuns.{hidden0, hidden1, hidden2}

pub steps_sound : (w : ℕ) (σ : Script) → OfGates w σ → All (Sound w) σ.steps
steps_sound w σ g = subst (All (Sound w)) (sym g.made) (gates_sound w g.gates)

nothing_learned : (w : ℕ) (σ : Script) → OfGates w σ → NothingLearned w σ
nothing_learned w σ g =
    record { host0 = hidden0 w σ; host1 = hidden1 w σ (steps_sound w σ g); host2 = hidden2 w σ (steps_sound w σ g) }

pub privacy : Privacy
privacy =
    record {
      script = nothing_learned;
      job = λ w job table. nothing_learned w (job_script w job table) (record { gates = job_gates w job table; made = job_made w job table });
    }
