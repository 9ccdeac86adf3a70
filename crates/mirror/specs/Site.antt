-- What a run keeps, and what its calls make of it. Assumes nothing.
use Rattle.std.specs.Prelude.{◌≡◌, ℕ, ◌<◌, ◌≤◌, List, length, ◌≢◌, slice_index, slice_range, replicate, Bool, Result, Ok, Err}
use Rattle.types.specs.Base.{Outcome}
use Rattle.types.specs.declared.refusals.Refusal.TheVariants.{InvalidImage}
use Rattle.image.specs.Seats.{size_of, checked_image}
use Rattle.image.specs.Changes.{Change, changed_image}
use Rattle.journal.specs.declared.values.Value.{Value}
use Rattle.journal.specs.declared.fields.Fields.{Fields}
use Rattle.mirror.specs.declared.site.Site.{Site}
use Rattle.mirror.specs.declared.failure.Failure.{Failure}
use Rattle.mirror.specs.declared.failure.Failure.TheVariants.{Refused}
use Rattle.mirror.specs.Args.{number_at}

-- the bytes of a line's message, the words of its last list, and those of the list before
abbrev pub message_of : Fields → List ℕ
message_of fields = slice_range fields.bytes 0 fields.bytes_count

abbrev pub list_of : Fields → List ℕ
list_of fields = slice_range fields.words fields.list fields.words_count

abbrev pub first_list_of : Fields → List ℕ
first_list_of fields = slice_range fields.words 0 fields.list

-- the site with this image; P, E and the settings stay
abbrev pub with_image : Site → List ℕ → Site
with_image site img = record {
  image = record { items = img };
  p = site.p;
  e = site.e;
  epoch_duration = site.epoch_duration;
  unlocking_duration = site.unlocking_duration;
}

-- the site after a change; a refused one leaves it as it was
abbrev pub changed : Site → Outcome Change → Site
changed site o = with_image site (changed_image site.p site.e site.image.items o)

-- SECONDS UNLOCKING
abbrev pub with_settings : Site → List Value → Site
with_settings site values = record {
  image = site.image;
  p = site.p;
  e = site.e;
  epoch_duration = number_at values 0;
  unlocking_duration = number_at values 1;
}

-- P E: as many zero words as they give; the settings stay
abbrev pub laid_out : Site → List Value → Site
laid_out site values = record {
  image = record { items = replicate (size_of (number_at values 0) (number_at values 1)) 0 };
  p = number_at values 0;
  e = number_at values 1;
  epoch_duration = site.epoch_duration;
  unlocking_duration = site.unlocking_duration;
}

-- an image that a call would refuse with 1 is saved to no file; of one that is saved the length is answered
abbrev pub SavedAs : Site → Result ℕ Failure → Type 0
SavedAs site (Ok n) = (checked_image site.p site.e site.image.items ≡ Bool.true) × (n ≡ length site.image.items)
SavedAs site (Err failure) = checked_image site.p site.e site.image.items ≡ Bool.false → failure ≡ Refused InvalidImage

-- the next word other than 0 from place i on stands at r; the image's length where there is none
pub record NextNonzero (image : List ℕ) (i r : ℕ) : Type 0 where
  pub ordered : i ≤ r
  pub within : r ≤ length image
  pub zeros : (k : ℕ) → i ≤ k → k < r → slice_index image k ≡ 0
  pub nonzero : r < length image → slice_index image r ≢ 0
