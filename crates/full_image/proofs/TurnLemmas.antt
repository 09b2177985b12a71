-- Lists of sections and outcomes that begin at another place, put back in order.
use Rattle.std.proofs.Common.{◌≡◌, ℕ, ◌<◌, ◌+◌, List, ◌++◌, length, get_or, map, take, drop, Option, None, sym, ap, ◌∙◌, arith}
use Rattle.std.proofs.Math.Seq.{drop-append_seam, take-append_seam}
use Rattle.std.proofs.lemmas.List.{same_lists, get_or-map, length-map, length-drop, length-append, take-append-drop, take-map, map-append}
use Rattle.std.specs.List.{drop-map}
use Rattle.full_image.specs.Compressed.{Stream}
use Rattle.full_image.specs.FullImage.{outcome_of}

turned_whole : {X : Type 0} (n first : ℕ) (xs : List X) → first + n ≡ length xs → drop n (drop first xs ++ take first xs) ++ take n (drop first xs ++ take first xs) ≡ xs
turned_whole n first xs all =
    let long : length (drop first xs) ≡ n = length-drop first xs ∙ (omega (arith, all)) in
    ap (λ m. drop m (drop first xs ++ take first xs) ++ take m (drop first xs ++ take first xs)) (sym long)
    ∙ ap (λ front. front ++ take (length (drop first xs)) (drop first xs ++ take first xs)) (drop-append_seam (drop first xs) (take first xs))
    ∙ ap (λ rest. take first xs ++ rest) (take-append_seam (drop first xs) (take first xs))
    ∙ take-append-drop first xs

pub turned_length : {X : Type 0} (first : ℕ) (xs : List X) → length (drop first xs ++ take first xs) ≡ length xs
turned_length first xs =
    let sum : length (take first xs) + length (drop first xs) ≡ length xs = sym (length-append (take first xs) (drop first xs)) ∙ ap length (take-append-drop first xs) in
    length-append (drop first xs) (take first xs) ∙ (omega (arith, sum))

turned_map : {X Y : Type 0} (f : X → Y) (first : ℕ) (xs : List X) → map f (drop first xs ++ take first xs) ≡ drop first (map f xs) ++ take first (map f xs)
turned_map f first xs =
    map-append f (drop first xs) (take first xs)
    ∙ ap (λ l. l ++ map f (take first xs)) (sym (drop-map f first xs))
    ∙ ap (λ l. drop first (map f xs) ++ l) (sym (take-map f first xs))

outs_are : {S : Type 0} (view : S → Option Stream) (turned : List S) (outs : List (Option (List ℕ))) → length outs ≡ length turned → ((k : ℕ) (d : Option (List ℕ)) → k < length outs → get_or outs k d ≡ outcome_of (get_or (map view turned) k None))
    → outs ≡ map outcome_of (map view turned)
outs_are view turned outs long each =
    let views : length (map view turned) ≡ length turned = length-map turned view in
    same_lists outs (map outcome_of (map view turned)) (long ∙ sym (length-map (map view turned) outcome_of ∙ views))
    (λ k d inside. each k d inside ∙ sym (get_or-map outcome_of (map view turned) k None d (omega (arith, inside, long, views))))

pub all_inflated : {S : Type 0} (view : S → Option Stream) (streams : List S) (first n : ℕ) (outs : List (Option (List ℕ))) → first + n ≡ length streams → length outs ≡ length streams
    → ((k : ℕ) (d : Option (List ℕ)) → k < length outs → get_or outs k d ≡ outcome_of (get_or (map view (drop first streams ++ take first streams)) k None))
    → drop n outs ++ take n outs ≡ map outcome_of (map view streams)
all_inflated view streams first n outs all long each =
    ap (λ o. drop n o ++ take n o) (outs_are view (drop first streams ++ take first streams) outs (long ∙ sym (turned_length first streams)) each
    ∙ ap (map outcome_of) (turned_map view first streams) ∙ turned_map outcome_of first (map view streams))
    ∙ turned_whole n first (map outcome_of (map view streams)) (all ∙ sym (length-map (map view streams) outcome_of ∙ length-map streams view))
