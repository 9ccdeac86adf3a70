-- A caps message that has been checked. Assumes nothing.
use Rattle.std.specs.Prelude.{◌≡◌, List, ℕ, Result, Ok, Err, true, false}
use Rattle.types.specs.declared.refusals.Refusal.{Refusal}
use Rattle.types.specs.declared.refusals.Refusal.TheVariants.{InvalidPublisherCaps}
use Rattle.publisher_caps.specs.declared.PublisherCaps.{PublisherCaps}
use Rattle.publisher_caps.specs.Message.{message_holds}

-- refusal 3, or the message as it was lent
abbrev pub Checked : List ℕ → Result PublisherCaps Refusal → Type 0
Checked m (Ok caps) = (message_holds m ≡ true) × (caps.message.now ≡ m)
Checked m (Err refusal) = (message_holds m ≡ false) × (refusal ≡ InvalidPublisherCaps)
