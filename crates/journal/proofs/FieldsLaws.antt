-- Laws of what is read of a message and of a list. Assumes nothing.
use Rattle.std.proofs.Common.{◌≡◌, ℕ, ◌<◌, ◌≤◌, Bool, true, false, List, length, refl, arith, Option, None, Some, Result, Ok, Err, IfOk}
use Rattle.std.specs.Option.{ok_or}
use Rattle.std.specs.Str.{bytes_eq}
use Rattle.text.specs.declared.items.WordError.{WordError}
use Rattle.text.specs.Hex.{bytes_of, spelled}
use Rattle.text.specs.Items.{items}
use Rattle.text.specs.Words.{dash, comma}
use Rattle.text.proofs.HexLaws.{bytes_count}
use Rattle.text.proofs.WordsLaws.{words_fit, words_within, list_within}
use Rattle.journal.specs.declared.fault.Fault.{Fault}
use Rattle.journal.specs.declared.fault.Fault.TheVariants.{NotMessage}
use Rattle.journal.specs.Fields.{message_of, MessageRead, part_of, parted, ListRead}

-- what holds of every count that is read
if_count : {E : Type 0} (P : ℕ → Type 0) (read : Result ℕ E) → ((n : ℕ) → read ≡ Ok n → P n) → IfOk read P
if_count P (Ok n) h = h n refl
if_count P (Err e) h = tt

if_bytes : (P : ℕ → Type 0) (read : Option ℕ) (fault : Fault) → ((n : ℕ) → read ≡ Some n → P n) → IfOk (ok_or read fault) P
if_bytes P (Some n) fault h = h n refl
if_bytes P None fault h = tt

module _ (s old : List ℕ) where
  pub message_dash : bytes_eq s dash ≡ true → MessageRead s old old (Ok 0)
  unfolding message_of
  message_dash e = record { within = omega arith; told = rw e; kept = rw e }

  pub message_read :
      (new : List ℕ) (read : Option ℕ) (result : Result ℕ Fault) → bytes_eq s dash ≡ false → read ≡ bytes_of s (length old) →
      new ≡ spelled read s old → result ≡ ok_or read NotMessage → MessageRead s old new result
  unfolding message_of
  message_read new read result e f g h =
      let told : result ≡ ok_or (bytes_of s (length old)) NotMessage = rw (← f) h in
      record {
        within = rw told (if_bytes (λ n. n ≤ length old) (bytes_of s (length old)) NotMessage (bytes_count s (length old)));
        told = rw e told;
        kept = rw (e, ← f) g;
      }

  part_within : (whole : Bool) (n : ℕ) → part_of whole s (length old) ≡ Ok n → n ≤ length old
  unfolding part_of
  part_within true n e = list_within s (length old) n e
  part_within false n e = words_fit (items comma s) (length old) 0 n e

  part_grows : (whole : Bool) → whole ≡ false → 0 < length old → (n : ℕ) → part_of whole s (length old) ≡ Ok n → 0 < n
  unfolding part_of
  part_grows true e h n f = absurd (cc)
  part_grows false e h n f = (words_within comma s (length old) n h f).0

  pub list_read :
      (whole : Bool) (new : List ℕ) (result : Result ℕ WordError) → result ≡ part_of whole s (length old) → new ≡ parted whole s old →
      ListRead whole s old new result
  list_read whole new result e f =
      record {
        within = rw e (if_count (λ n. n ≤ length old) (part_of whole s (length old)) (part_within whole));
        grows = λ g h. rw e (if_count (λ n. 0 < n) (part_of whole s (length old)) (part_grows whole g h));
        told = e;
        kept = f;
      }
