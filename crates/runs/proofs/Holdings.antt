-- The very words that the hosts hold: cited from where they stand. Assumes nothing.
use Rattle.runs.specs.Runs.{staged}
use Rattle.runs.specs.Holdings.{Holdings}
use Rattle.runs.proofs.Unwritten.{last_is_behind}
use Rattle.runs.proofs.Standing.{stands1, stands2, stands0}
use Rattle.runs.proofs.Opened.{target_behind}

pub holdings : Holdings
holdings =
    record {
      host1 = λ S cs z buf s t said two r i u. stands1 S r i (last_is_behind i s.order S.script.steps u);
      host2 = λ S cs z buf one s t said r i u. stands2 S r i (last_is_behind i s.order S.script.steps u);
      behind1 = λ S cs z buf s t said two r i u. stands1 S r i u;
      behind2 = λ S cs z buf one s t said r i u. stands2 S r i u;
      host0 = λ S tidy cs r t buf one two R i h. stands0 S tidy.closed R i h;
      job_host1 = λ w S cs z buf s t said two r i h. stands1 (staged w S) r i (target_behind w S s.order i h);
      job_host2 = λ w S cs z buf one s t said r i h. stands2 (staged w S) r i (target_behind w S s.order i h);
    }
