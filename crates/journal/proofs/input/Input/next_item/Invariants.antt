use Rattle.std.proofs.Common.{◌-◌}
use Rattle.journal.proofs.input.Input.next_item.Given as goal

abbrev pub decreases-loop-count : goal.decreases-loop-count
decreases-loop-count l = 131072 - (l.self.end - l.self.item)
