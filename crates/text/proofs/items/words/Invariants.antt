-- `text::items::words`: the words of the items so far are put, and what is left decides.
use Rattle.std.proofs.Common.{◌≡◌, ◌≤◌, ◌++◌, length, take, drop}
use Rattle.text.specs.Items.{items}
use Rattle.text.specs.Words.{comma, words_of, numbers, laid}
use Rattle.text.proofs.items.words.Given as goal

abbrev pub invariant-loop-item : goal.invariant-loop-item
invariant-loop-item l = record {
  within : l.count ≤ length l.initial.out;
  count : words_of (drop (length l.yielded) (items comma l.s)) (length l.initial.out) l.count ≡ words_of (items comma l.s) (length l.initial.out) 0;
  image : take l.count l.out ++ laid (numbers (drop (length l.yielded) (items comma l.s))) (drop l.count l.out)
      ≡ laid (numbers (items comma l.s)) l.initial.out;
}
