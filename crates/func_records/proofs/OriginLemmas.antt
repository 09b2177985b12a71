-- The names of the inlined functions, as they are gathered and numbered.
use Rattle.std.proofs.Common.{◌≡◌, ℕ, zero, suc, ◌+◌, ◌<◌, ◌≤◌, Bool, true, false, cond, map, length, take, drop, get_or, List, [], ◌∷◌, ◌++◌, ◌||◌, Some, unwrap_or, option_map, inl, inr, arith, refl, sym, ap, subst, ◌∙◌, append_assoc, append-nil}
use Rattle.std.proofs.Math.Seq.{take-append_seam, drop-append_seam}
use Rattle.std.proofs.lemmas.List.{length-take-le, length-append, length-map, map-append, take_all}
use Rattle.std.proofs.lemmas.List.Folds.{list_any-append}
use Rattle.std.proofs.lemmas.Slice.Eq.{bytes_eq-Decides}
use Rattle.std.specs.List.{list_any, slice_get}
use Rattle.std.specs.Str.{bytes_eq}
use Rattle.debug_units.specs.declared.unit_read.UnitRead.{UnitRead}
use Rattle.die_names.specs.declared.name_source.NameRef.{NameRef}
use Rattle.die_names.specs.Names.{entry_name}
use Rattle.func_flatten.specs.declared.piece.Piece.{Piece}
use Rattle.inline_chain.specs.InlineRuns.{InlineParts}
use Rattle.func_records.specs.internal.Origins.{made_name, entry_names, all_names, beside, RefParts, AreAt, TextsSay, RefsSay, IsPlaced}
use Rattle.func_records.proofs.ListLemmas.{same_bytes, take_next, get_front, get_last, or_left, or_right}
use Rattle.func_records.proofs.NumberLemmas.{there}

-- The names of one piece more.
names_push : (units : List UnitRead) (pieces : List Piece) (held : List (List InlineParts)) (piece : Piece) (copies : List InlineParts) → length held ≡ length pieces → all_names units (pieces ++ piece ∷ []) (held ++ copies ∷ []) ≡ all_names units pieces held ++ entry_names units piece.unit copies
names_push units [] [] piece copies same = append-nil (entry_names units piece.unit copies)
names_push units [] (h ∷ held) piece copies same = absurd (omega (arith, same))
names_push units (p ∷ pieces) [] piece copies same = absurd (omega (arith, same))
names_push units (p ∷ pieces) (h ∷ held) piece copies same =
    ap (λ ns. entry_names units p.unit h ++ ns) (names_push units pieces held piece copies (omega (arith, same)))
    ∙ sym (append_assoc (entry_names units p.unit h) (all_names units pieces held) (entry_names units piece.unit copies))

pub names_next : (units : List UnitRead) (pieces : List Piece) (held : List (List InlineParts)) (n : ℕ) (d : Piece) (e copies : List InlineParts) (old new : List (List ℕ)) → n < length pieces → length held ≡ length pieces → copies ≡ get_or held n e → old ≡ all_names units (take n pieces) (take n held) → new ≡ old ++ entry_names units (get_or pieces n d).unit copies → new ≡ all_names units (take (n + 1) pieces) (take (n + 1) held)
names_next units pieces held n d e copies old new below count is so added =
    let first : take (n + 1) pieces ≡ take n pieces ++ get_or pieces n d ∷ [] = take_next pieces n d below in
    let second : take (n + 1) held ≡ take n held ++ get_or held n e ∷ [] = take_next held n e (omega (arith, below, count)) in
    let same : length (take n held) ≡ length (take n pieces) = omega (arith, count, length-take-le n held (omega (arith, below, count)), length-take-le n pieces (omega (arith, below))) in
    added ∙ ap (λ ns. ns ++ entry_names units (get_or pieces n d).unit copies) so
    ∙ ap (λ cs. all_names units (take n pieces) (take n held) ++ entry_names units (get_or pieces n d).unit cs) is
    ∙ sym (names_push units (take n pieces) (take n held) (get_or pieces n d) (get_or held n e) same)
    ∙ ap (λ cs. all_names units (take n pieces ++ get_or pieces n d ∷ []) cs) (sym second)
    ∙ ap (λ ps. all_names units ps (take (n + 1) held)) (sym first)

-- The names of a piece, followed by those of the later pieces.
pub names_from : (units : List UnitRead) (pieces : List Piece) (held : List (List InlineParts)) (n : ℕ) (d : Piece) (e copies : List InlineParts) → n < length pieces → length held ≡ length pieces → copies ≡ get_or held n e → all_names units (drop n pieces) (drop n held) ≡ entry_names units (get_or pieces n d).unit copies ++ all_names units (drop (n + 1) pieces) (drop (n + 1) held)
names_from units [] held n d e copies below count is = absurd (omega (arith, below))
names_from units (p ∷ pieces) [] n d e copies below count is = absurd (omega (arith, count))
names_from units (p ∷ pieces) (h ∷ held) zero d e copies below count is = ap (λ cs. entry_names units p.unit cs ++ all_names units pieces held) (sym is)
names_from units (p ∷ pieces) (h ∷ held) (suc n) d e copies below count is =
    let next : suc n + 1 ≡ suc (n + 1) = omega arith in
    names_from units pieces held n d e copies (omega (arith, below)) (omega (arith, count)) is
    ∙ ap (λ k. entry_names units (get_or pieces n d).unit copies ++ all_names units (drop k (p ∷ pieces)) (drop k (h ∷ held))) (sym next)

-- The numbers of these names.
pub count_names : (f : List ℕ → ℕ) (units : List UnitRead) (unit : ℕ) (copies : List InlineParts) → length (map f (entry_names units unit copies)) ≡ length copies
count_names f units unit [] = refl
count_names f units unit (r ∷ copies) = ap suc (count_names f units unit copies)

numbers_split : (f : List ℕ → ℕ) (units : List UnitRead) (pieces : List Piece) (held : List (List InlineParts)) (n : ℕ) (d : Piece) (e copies : List InlineParts) → n < length pieces → length held ≡ length pieces → copies ≡ get_or held n e → map f (all_names units (drop n pieces) (drop n held)) ≡ map f (entry_names units (get_or pieces n d).unit copies) ++ map f (all_names units (drop (n + 1) pieces) (drop (n + 1) held))
numbers_split f units pieces held n d e copies below count is =
    ap (map f) (names_from units pieces held n d e copies below count is)
    ∙ map-append f (entry_names units (get_or pieces n d).unit copies) (all_names units (drop (n + 1) pieces) (drop (n + 1) held))

pub numbers_enough : (f : List ℕ → ℕ) (units : List UnitRead) (pieces : List Piece) (held : List (List InlineParts)) (n : ℕ) (d : Piece) (e copies : List InlineParts) (rest : List ℕ) → n < length pieces → length held ≡ length pieces → copies ≡ get_or held n e → rest ≡ map f (all_names units (drop n pieces) (drop n held)) → length copies ≤ length rest
numbers_enough f units pieces held n d e copies rest below count is so =
    let here = map f (entry_names units (get_or pieces n d).unit copies) in
    let later = map f (all_names units (drop (n + 1) pieces) (drop (n + 1) held)) in
    let whole : length rest ≡ length here + length later = ap length (so ∙ numbers_split f units pieces held n d e copies below count is) ∙ length-append here later in
    omega (arith, whole, count_names f units (get_or pieces n d).unit copies)

pub numbers_here : (f : List ℕ → ℕ) (units : List UnitRead) (pieces : List Piece) (held : List (List InlineParts)) (n : ℕ) (d : Piece) (e copies : List InlineParts) (rest : List ℕ) → n < length pieces → length held ≡ length pieces → copies ≡ get_or held n e → rest ≡ map f (all_names units (drop n pieces) (drop n held)) → take (length copies) rest ≡ map f (entry_names units (get_or pieces n d).unit copies)
numbers_here f units pieces held n d e copies rest below count is so =
    let here = map f (entry_names units (get_or pieces n d).unit copies) in
    ap (take (length copies)) (so ∙ numbers_split f units pieces held n d e copies below count is)
    ∙ ap (λ k. take k (here ++ map f (all_names units (drop (n + 1) pieces) (drop (n + 1) held)))) (sym (count_names f units (get_or pieces n d).unit copies))
    ∙ take-append_seam here (map f (all_names units (drop (n + 1) pieces) (drop (n + 1) held)))

pub numbers_later : (f : List ℕ → ℕ) (units : List UnitRead) (pieces : List Piece) (held : List (List InlineParts)) (n : ℕ) (d : Piece) (e copies : List InlineParts) (rest : List ℕ) → n < length pieces → length held ≡ length pieces → copies ≡ get_or held n e → rest ≡ map f (all_names units (drop n pieces) (drop n held)) → drop (length copies) rest ≡ map f (all_names units (drop (n + 1) pieces) (drop (n + 1) held))
numbers_later f units pieces held n d e copies rest below count is so =
    let here = map f (entry_names units (get_or pieces n d).unit copies) in
    ap (drop (length copies)) (so ∙ numbers_split f units pieces held n d e copies below count is)
    ∙ ap (λ k. drop k (here ++ map f (all_names units (drop (n + 1) pieces) (drop (n + 1) held)))) (sym (count_names f units (get_or pieces n d).unit copies))
    ∙ drop-append_seam here (map f (all_names units (drop (n + 1) pieces) (drop (n + 1) held)))

-- The number of a copy's name.
pub number_at : (f : List ℕ → ℕ) (units : List UnitRead) (unit : ℕ) (copies : List InlineParts) (n : ℕ) (d : InlineParts) (e : ℕ) → n < length copies → get_or (map f (entry_names units unit copies)) n e ≡ f (entry_name units unit (get_or copies n d).entry)
number_at f units unit [] n d e below = absurd (omega (arith, below))
number_at f units unit (r ∷ copies) zero d e below = refl
number_at f units unit (r ∷ copies) (suc n) d e below = number_at f units unit copies n d e (omega (arith, below))

-- Texts at places.
at_more : (texts more : List (List ℕ)) (places : List ℕ) (names : List (List ℕ)) → AreAt texts places names → AreAt (texts ++ more) places names
at_more texts more [] [] are = tt
at_more texts more [] (n ∷ names) are = absurd are
at_more texts more (k ∷ places) [] are = absurd are
at_more texts more (k ∷ places) (n ∷ names) are = (get_front texts more k n are.0, at_more texts more places names are.1)

at_push : (texts : List (List ℕ)) (places : List ℕ) (names : List (List ℕ)) (k : ℕ) (name : List ℕ) → AreAt texts places names → slice_get texts k ≡ Some name → AreAt texts (places ++ k ∷ []) (names ++ name ∷ [])
at_push texts [] [] k name are at = (at, tt)
at_push texts [] (n ∷ names) k name are at = absurd are
at_push texts (j ∷ places) [] k name are at = absurd are
at_push texts (j ∷ places) (n ∷ names) k name are at = (are.0, at_push texts places names k name are.1 at)

-- One text more, which is added or was there before.
absorbed : (b c : Bool) → (b ≡ true → c ≡ true) → c ≡ (c || (b || false))
absorbed true c is = is refl ∙ sym (or_right c true refl)
absorbed false true is = refl
absorbed false false is = refl

had_already : (texts names : List (List ℕ)) (k : ℕ) (name text : List ℕ) → slice_get texts k ≡ Some name → list_any (bytes_eq text) texts ≡ list_any (bytes_eq text) names → list_any (bytes_eq text) texts ≡ list_any (bytes_eq text) (names ++ name ∷ [])
had_already texts names k name text at same =
    absorbed (bytes_eq text name) (list_any (bytes_eq text) texts) (λ is.
    let alike : text ≡ name = (bytes_eq-Decides text name).0 is in
    there texts k text (at ∙ ap Some (sym alike)))
    ∙ ap (λ b. b || (bytes_eq text name || false)) same
    ∙ sym (list_any-append (bytes_eq text) names (name ∷ []))

had_more : (texts names : List (List ℕ)) (name text : List ℕ) → list_any (bytes_eq text) texts ≡ list_any (bytes_eq text) names → list_any (bytes_eq text) (texts ++ name ∷ []) ≡ list_any (bytes_eq text) (names ++ name ∷ [])
had_more texts names name text same =
    list_any-append (bytes_eq text) texts (name ∷ [])
    ∙ ap (λ b. b || (bytes_eq text name || false)) same
    ∙ sym (list_any-append (bytes_eq text) names (name ∷ []))

get_made : (units : List UnitRead) (refs : List NameRef) (k : ℕ) (name : NameRef) → slice_get refs k ≡ Some name → slice_get (map (made_name units) refs) k ≡ Some (made_name units name)
get_made units [] k name is = absurd (cc)
get_made units (r ∷ refs) zero name is = ap (λ o. option_map (made_name units) o) is
get_made units (r ∷ refs) (suc k) name is = get_made units refs k name is

-- One name more.
said_kept : (texts : List (List ℕ)) (places : List ℕ) (names : List (List ℕ)) (name : List ℕ) (k : ℕ) → slice_get texts k ≡ Some name → TextsSay texts places names → TextsSay texts (places ++ k ∷ []) (names ++ name ∷ [])
said_kept texts places names name k at say = record {
  at = at_push texts places names k name say.at at;
  same = λ text. had_already texts names k name text at (say.same text);
}

said_added : (texts : List (List ℕ)) (places : List ℕ) (names : List (List ℕ)) (name : List ℕ) → TextsSay texts places names → TextsSay (texts ++ name ∷ []) (places ++ length texts ∷ []) (names ++ name ∷ [])
said_added texts places names name say = record {
  at = at_push (texts ++ name ∷ []) places names (length texts) name (at_more texts (name ∷ []) places names say.at) (get_last texts name);
  same = λ text. had_more texts names name text (say.same text);
}

said_more : (texts more : List (List ℕ)) (places stands : List ℕ) (names : List (List ℕ)) (name : List ℕ) (k : ℕ) → IsPlaced texts more name k → stands ≡ places ++ k ∷ [] → TextsSay texts places names → TextsSay more stands (names ++ name ∷ [])
said_more texts more places stands names name k (inl stood) is say = rw is (rw stood.0 (said_kept texts places names name k stood.1 say))
said_more texts more places stands names name k (inr grown) is say = rw is (rw grown.0 (rw grown.1 (said_added texts places names name say)))

-- There is no reference yet.
pub refs_none : (units : List UnitRead) (parts : RefParts) (names : List (List ℕ)) → parts ≡ record { refs = []; places = [] } → names ≡ [] → RefsSay units parts names
refs_none units parts names is none = rw is (rw none (record { at = tt; same = λ name. refl }))

-- The reference of one name more.
made_placed : (units : List UnitRead) (refs after : List NameRef) (name : NameRef) (k : ℕ) → IsPlaced refs after name k → IsPlaced (map (made_name units) refs) (map (made_name units) after) (made_name units name) k
made_placed units refs after name k (inl stood) = inl (ap (map (made_name units)) stood.0, get_made units refs k name stood.1)
made_placed units refs after name k (inr grown) = inr (ap (map (made_name units)) grown.0 ∙ map-append (made_name units) refs (name ∷ []), grown.1 ∙ sym (length-map refs (made_name units)))

pub refs_more : (units : List UnitRead) (old new : RefParts) (names : List (List ℕ)) (name : NameRef) (made : List ℕ) (k : ℕ) → IsPlaced old.refs new.refs name k → new.places ≡ old.places ++ k ∷ [] → made_name units name ≡ made → RefsSay units old names → RefsSay units new (names ++ made ∷ [])
refs_more units old new names name made k placed added said say =
    subst (λ (t : List ℕ). RefsSay units new (names ++ t ∷ [])) said
    (said_more (map (made_name units) old.refs) (map (made_name units) new.refs) old.places new.places names (made_name units name) k (made_placed units old.refs new.refs name k placed) added say)

-- The place of one name more.
pub said_next : (texts more : List (List ℕ)) (places stands : List ℕ) (names : List (List ℕ)) (n : ℕ) (d name : List ℕ) (k : ℕ) → n < length names → name ≡ get_or names n d → IsPlaced texts more name k → stands ≡ places ++ k ∷ [] → TextsSay texts places (take n names) → TextsSay more stands (take (n + 1) names)
said_next texts more places stands names n d name k below is placed added say =
    subst (TextsSay more stands)
    (ap (λ t. take n names ++ t ∷ []) is ∙ sym (take_next names n d below))
    (said_more texts more places stands (take n names) name k placed added say)

-- The names of a piece's copies, one by one.
pub copies_none : (units : List UnitRead) (unit : ℕ) (copies : List InlineParts) (parts : RefParts) (names : List (List ℕ)) → RefsSay units parts names → RefsSay units parts (names ++ entry_names units unit (take 0 copies))
copies_none units unit copies parts names say = subst (RefsSay units parts) (sym (append-nil names)) say

copies_push : (units : List UnitRead) (unit n : ℕ) (copies : List InlineParts) (d : InlineParts) (names : List (List ℕ)) → n < length copies → (names ++ entry_names units unit (take n copies)) ++ entry_name units unit (get_or copies n d).entry ∷ [] ≡ names ++ entry_names units unit (take (n + 1) copies)
copies_push units unit n copies d names below =
    append_assoc names (entry_names units unit (take n copies)) (entry_name units unit (get_or copies n d).entry ∷ [])
    ∙ ap (λ ns. names ++ ns) (sym (map-append (λ (r : InlineParts). entry_name units unit r.entry) (take n copies) (get_or copies n d ∷ [])))
    ∙ ap (λ (cs : List InlineParts). names ++ entry_names units unit cs) (sym (take_next copies n d below))

pub copies_next : (units : List UnitRead) (unit n : ℕ) (copies : List InlineParts) (copy : InlineParts) (parts : RefParts) (names : List (List ℕ)) → n < length copies → copy ≡ get_or copies n copy → RefsSay units parts ((names ++ entry_names units unit (take n copies)) ++ entry_name units unit copy.entry ∷ []) → RefsSay units parts (names ++ entry_names units unit (take (n + 1) copies))
copies_next units unit n copies copy parts names below is say =
    subst (RefsSay units parts)
    (ap (λ (r : InlineParts). (names ++ entry_names units unit (take n copies)) ++ entry_name units unit r.entry ∷ []) is ∙ copies_push units unit n copies copy names below)
    say

pub copies_all : (units : List UnitRead) (unit n : ℕ) (copies : List InlineParts) (parts : RefParts) (names : List (List ℕ)) → length copies ≤ n → RefsSay units parts (names ++ entry_names units unit (take n copies)) → RefsSay units parts (names ++ entry_names units unit copies)
copies_all units unit n copies parts names all say = subst (λ (cs : List InlineParts). RefsSay units parts (names ++ entry_names units unit cs)) (take_all n copies all) say

-- The numbers at the places of names.
pub places_numbered : (f : List ℕ → ℕ) (texts : List (List ℕ)) (numbers places : List ℕ) (names : List (List ℕ)) → numbers ≡ map f texts → AreAt texts places names → map (λ k. unwrap_or (slice_get numbers k) 0) places ≡ map f names
places_numbered f texts numbers [] [] are at = refl
places_numbered f texts numbers [] (n ∷ names) are at = absurd at
places_numbered f texts numbers (k ∷ places) [] are at = absurd at
places_numbered f texts numbers (k ∷ places) (n ∷ names) are at =
    ap (λ m. m ∷ map (λ j. unwrap_or (slice_get numbers j) 0) places) (ap (λ ns. unwrap_or (slice_get ns k) 0) are ∙ ap (λ o. unwrap_or o 0) (get_mapped f texts k n at.0))
    ∙ ap (λ ms. f n ∷ ms) (places_numbered f texts numbers places names are at.1)
  where
    get_mapped : (g : List ℕ → ℕ) (ts : List (List ℕ)) (j : ℕ) (t : List ℕ) → slice_get ts j ≡ Some t → slice_get (map g ts) j ≡ Some (g t)
    get_mapped g [] j t is = absurd (cc)
    get_mapped g (u ∷ ts) zero t is = ap (option_map g) is
    get_mapped g (u ∷ ts) (suc j) t is = get_mapped g ts j t is

-- The number beside a text, if each number is the one that a function gives for its text.
beside_by : (g : List ℕ → ℕ) (name text : List ℕ) (later : ℕ) (here had : Bool) → bytes_eq name text ≡ here → (here || had) ≡ true → (had ≡ true → later ≡ g name) → cond here (g text) later ≡ g name
beside_by g name text later true had is has below = ap g (sym ((bytes_eq-Decides name text).0 is))
beside_by g name text later false had is has below = below has

pub number_beside : (g : List ℕ → ℕ) (texts : List (List ℕ)) (name : List ℕ) → list_any (bytes_eq name) texts ≡ true → beside texts (map g texts) name ≡ g name
number_beside g [] name has = cc
number_beside g (text ∷ texts) name has = beside_by g name text (beside texts (map g texts) name) (bytes_eq name text) (list_any (bytes_eq name) texts) refl has (number_beside g texts name)

each_beside : (g : List ℕ → ℕ) (texts names : List (List ℕ)) → ((name : List ℕ) → list_any (bytes_eq name) names ≡ true → list_any (bytes_eq name) texts ≡ true) → map (beside texts (map g texts)) names ≡ map g names
each_beside g texts [] all = refl
each_beside g texts (name ∷ names) all =
    ap (λ n. n ∷ map (beside texts (map g texts)) names) (number_beside g texts name (all name (or_left (bytes_eq name name) (list_any (bytes_eq name) names) (same_bytes name))))
    ∙ ap (λ ns. g name ∷ ns) (each_beside g texts names (λ other has. all other (or_right (bytes_eq other name) (list_any (bytes_eq other) names) has)))

pub numbers_beside : (g : List ℕ → ℕ) (texts : List (List ℕ)) (numbers : List ℕ) → numbers ≡ map g texts → map (beside texts numbers) texts ≡ numbers
numbers_beside g texts numbers are = ap (λ ns. map (beside texts ns) texts) are ∙ each_beside g texts texts (λ name has. has) ∙ sym are
