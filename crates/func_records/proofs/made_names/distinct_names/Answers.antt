use Rattle.std.proofs.Common.{arith, refl, ◌∙◌}
use Rattle.std.proofs.lemmas.Bool.Decides.{Decides-eqb}
use Rattle.std.proofs.lemmas.Slice.Eq.{slice_eq-Decides}
use Rattle.place_guesses.proofs.PlacedLemmas.{placed_seen}
use Rattle.func_records.specs.internal.Gathering.{bytes_of}
use Rattle.func_records.proofs.OriginLemmas.{said_next}
use Rattle.func_records.proofs.made_names.distinct_names.Goals as goal

pub names-preserved : goal.names-preserved
names-preserved c =
    said_next (bytes_of c.names.texts.items) (bytes_of c.place_or_add.new.list.items) c.names.places.items c.push.new.self.items c.args.names.now c.names.k _ c.as_slice.result.now c.in_ok-place.place
    (omega arith) (c.as_slice.ensures ∙ c.index-names-k.is)
    (placed_seen _ (λ t. t.now) (λ x y e. (slice_eq-Decides Decides-eqb x.now y.now _ refl).0 e) _ _ _ _ c.in_ok-place.ensures)
    c.in_ok-push.ensures.items c.names.invariant
