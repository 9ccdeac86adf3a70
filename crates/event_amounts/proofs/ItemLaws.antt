-- What the loop over a list of anything that is a position keeps, and one law for each way on and each way out. Assumes nothing.
use mathlib.Core.Path.{◌≡◌, sym, ap, ◌∙◌}
use mathlib.Core.Logic.{◌⊎◌, inl, inr}
use mathlib.Core.Bool.{true, false}
use mathlib.Core.List.{List}
use Prim.Native.Nat.{ℕ, ◌+◌, ◌-◌, ◌*◌, ◌<◌, ◌≤◌}
use native.Mathlib.Omega.{arith}
use lib.ListN.{length, get_or}
use Rattle.std.specs.Prelude.{map, Some, None}
use Rattle.types.specs.Base.{word}
use Rattle.positions.specs.declared.Key.{Key}
use Rattle.positions.specs.declared.position.Position.{Position}
use Rattle.positions.specs.Positions.{position_from}
use Rattle.image.specs.Layout.{Words}
use Rattle.event_walk.specs.declared.EventAmounts.{EventAmounts}
use Rattle.event_walk.specs.declared.newest.Newest.{Newest}
use Rattle.event_walk.specs.declared.span.Span.{Span}
use Rattle.event_walk.specs.Walk.{gather_fits}
use Rattle.event_walk.specs.Span.{SpanOf}
use Rattle.event_walk.specs.Walked.{epochs_of, NewestOf, no_amounts, Walked, sums_fit}
use Rattle.event_walk.proofs.AmountLaws.{added_most, room_for_all}
use Rattle.event_amounts.specs.Records.{records_words, record_in}
use Rattle.event_amounts.specs.Gathered.{Gathers}
use Rattle.event_amounts.proofs.RecordLaws.{items_count, item_position}
use Rattle.event_walk.proofs.NewestLaws.{zeros_at}
use Rattle.event_amounts.proofs.GatherLaws.{Gathering, gather_start, gather_other, gather_unfit, gather_walked, gather_past, gather_end, reads_fit}

module _ {T : Type 0} (as_position : T → Position) (xs : List T) (E : ℕ) (w : Words) (publisher : Key) (from unlocking : ℕ) where
  abbrev words : List ℕ
  words = records_words (map as_position xs)

  -- the walks in front of position i are done, and no amount is past what they draw in all, or past the largest word
  pub record Kept (i drawn : ℕ) (g : EventAmounts) : Type 0 where
    pub gathering : Gathering E w words publisher from unlocking i g
    pub most : (k : ℕ) → get_or g.amounts k 0 ≤ drawn

  pub kept_start : (g : EventAmounts) → g ≡ no_amounts → Kept 0 0 g
  kept_start g e = rw e (record { gathering = gather_start E w words publisher from unlocking; most = λ k. omega (arith, zeros_at 52 k) })

module _ {T : Type 0} {as_position : T → Position} {xs : List T} {E : ℕ} {w : Words} {publisher : Key} {from unlocking i drawn : ℕ} {g : EventAmounts}
    (kept : Kept as_position xs E w publisher from unlocking i drawn g)
  where
    abbrev here : List ℕ
    here = records_words (map as_position xs)

    pub kept_end : length xs ≤ i → i ≤ length xs → Gathers E w here publisher from unlocking g
    kept_end a b = gather_end E w here publisher from unlocking i g kept.gathering (omega (arith, items_count as_position xs))

    -- ---- position i

    -- the read count fits
    pub kept_reads : (n : Newest) → NewestOf E w from n → i ≤ 256 → g.reads + n.reads < word
    kept_reads n newest l = reads_fit E w here publisher from unlocking n newest i g kept.gathering l

    module _ (x : T) (is : x ≡ get_or xs i x) (l : i < length xs) where
      stands : as_position x ≡ position_from here (i * 9)
      stands = item_position as_position xs i x l is

      pub kept_other : false ≡ record_in (as_position x) publisher → Kept as_position xs E w publisher from unlocking (i + 1) drawn g
      kept_other e = record {
        gathering = gather_other E w here publisher from unlocking i g kept.gathering (as_position x) stands (sym e);
        most = kept.most;
      }

      module _ (p : Position) (same : p ≡ as_position x) (n : Newest) (newest : NewestOf E w from n)
          (matches : true ≡ record_in (as_position x) publisher) where
        pub kept_unfit : SpanOf (epochs_of n) p unlocking None → gather_fits E w here publisher from unlocking ≡ false
        kept_unfit known =
            gather_unfit E w here publisher from unlocking i g kept.gathering p (same ∙ stands) n newest
            (omega (arith, items_count as_position xs)) (ap (λ (q : Position). record_in q publisher) same ∙ sym matches) known

        module _ (s : Span) (known : SpanOf (epochs_of n) p unlocking (Some s)) where
          -- what is drawn in all is a word, so it has room
          pub kept_room : (more : ℕ) → more ≡ drawn + s.amount → more < word → sums_fit (epochs_of n) s g.amounts ≡ true
          kept_room more sum small = room_for_all (epochs_of n) s g.amounts (λ k. omega (arith, kept.most k))

          pub kept_walked : (more : ℕ) (r : EventAmounts) → ((more ≡ drawn + s.amount) ⊎ (more ≡ word - 1)) → Walked n s g r
              → Kept as_position xs E w publisher from unlocking (i + 1) more r
          kept_walked more r sum walked = record { gathering = gathering; most = λ k. most k sum }
            where
              gathering : Gathering E w here publisher from unlocking (i + 1) r
              gathering =
                  gather_walked E w here publisher from unlocking i g kept.gathering p (same ∙ stands) n newest
                  (omega (arith, items_count as_position xs)) (ap (λ (q : Position). record_in q publisher) same ∙ sym matches) s known r walked

              most : (k : ℕ) → (more ≡ drawn + s.amount) ⊎ (more ≡ word - 1) → get_or r.amounts k 0 ≤ more
              most k (inl e) = omega (arith, added_most (epochs_of n) s g.amounts r.amounts walked.amounts k, kept.most k)
              most k (inr e) = omega (arith, gathering.small k)

          pub kept_past : sums_fit (epochs_of n) s g.amounts ≡ false → gather_fits E w here publisher from unlocking ≡ false
          kept_past e =
              gather_past E w here publisher from unlocking i g kept.gathering p (same ∙ stands) n newest
              (omega (arith, items_count as_position xs)) (ap (λ (q : Position). record_in q publisher) same ∙ sym matches) s known e
