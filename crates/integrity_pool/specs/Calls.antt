-- The public calls: answers with refusals in document 01's order, and the image that each leaves. Assumes nothing.
use Rattle.std.specs.Prelude.{not, List, ℕ, ltb, eqb, if◌then◌else◌}
use Rattle.types.specs.Base.{Outcome, refused, accepted, after}
use Rattle.types.specs.Refusals.{invalid_image, invalid_epoch, invalid_publisher_caps, invalid_y}
use Rattle.publisher_caps.specs.declared.PublisherCaps.{PublisherCaps}
use Rattle.publisher_caps.specs.Message.{message_holds}
use Rattle.image.specs.Layout.{read, image}
use Rattle.image.specs.Seats.{sized_image, checked_image, fresh_words}
use Rattle.advance_plan.specs.declared.Given.{Given}
use Rattle.advance_plan.specs.Advance.{Advanced, advance_of, forecast_of, advanced_words}

-- ---- fresh (item 9)

-- 1, then 2; the n found in its list before is not looked at
unfoldable pub fresh_call : (P E : ℕ) → List ℕ → (given : ℕ) → Outcome (Unit {0})
fresh_call P E img given =
    if not (sized_image P E img) then refused invalid_image
    else if eqb given 0 then refused invalid_epoch
    else accepted tt

unfoldable pub fresh_image : (P E : ℕ) → List ℕ → (given : ℕ) → List ℕ
fresh_image P E img given = after (fresh_call P E img given) (λ x. image P E (fresh_words given)) img

-- ---- advance and forecast (items 4 and 5)

-- '1 to 6 first, by number': 1, 2, 3 and 5 here, then the refusals of the pool itself
unfoldable pub checked_then : {A : Type 0} → (P E : ℕ) → List ℕ → List ℕ → Given → Outcome A → Outcome A
checked_then P E img m g rest =
    if not (checked_image P E img) then refused invalid_image
    else if eqb g.epoch_duration 0 then refused invalid_epoch
    else if not (message_holds m) then refused invalid_publisher_caps
    else if ltb 10_000 g.y then refused invalid_y
    else rest

-- the message that was checked
abbrev pub message_as : PublisherCaps → List ℕ
message_as caps = caps.message.now

unfoldable pub advance_call : (P E : ℕ) → List ℕ → List ℕ → Given → Outcome Advanced
advance_call P E img m g = checked_then P E img m g (advance_of P (read P E img) m g)

unfoldable pub advance_image : (P E : ℕ) → List ℕ → List ℕ → Given → List ℕ
advance_image P E img m g =
    after (advance_call P E img m g) (λ a. image P E (advanced_words P E (read P E img) m g.current_epoch a.y a.set_aside)) img

unfoldable pub forecast_call : (P E : ℕ) → List ℕ → List ℕ → Given → Outcome ℕ
forecast_call P E img m g = checked_then P E img m g (forecast_of P (read P E img) m g)
