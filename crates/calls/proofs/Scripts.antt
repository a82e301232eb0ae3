-- The steps of a job's script are those of its orders' lists of gates. Assumes nothing.
use mathlib.Core.Path.{◌≡◌, refl}
use mathlib.Core.List.{List}
use Prim.Native.Nat.{ℕ}
use Rattle.gates.specs.Meaning.{job_steps}
use Rattle.jobs.specs.Job.{job_gates, steps_of}
use Rattle.calls.specs.Scripts.{job_script}

pub job_made : (w : ℕ) (job table : List ℕ) → (job_script w job table).steps ≡ job_steps w (job_gates w job table)
unfolding steps_of
job_made w job table = refl
