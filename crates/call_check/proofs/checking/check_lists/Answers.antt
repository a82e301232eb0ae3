use Rattle.calls.proofs.Faults.{short_list_a, short_list_b, short_buffer, long_enough}
use Rattle.call_check.proofs.checking.check_lists.Goals as goal

pub returns-then-a-need : goal.returns-then-a-need
returns-then-a-need c = short_list_a _ _ _ _ _ _ _ c.if-a-need.true

pub returns-then-b-need : goal.returns-then-b-need
returns-then-b-need c = short_list_b _ _ _ _ _ _ _ c.if-a-need.false c.if-b-need.true

pub returns-then-deals-need : goal.returns-then-deals-need
returns-then-deals-need c = short_buffer _ _ _ _ _ _ _ c.if-a-need.false c.if-b-need.false c.if-deals-need.true

pub returns : goal.returns
returns c = long_enough _ _ _ _ _ _ _ c.if-a-need.false c.if-b-need.false c.if-deals-need.false
