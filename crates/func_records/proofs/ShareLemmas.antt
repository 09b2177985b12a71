-- What holds for each share holds for all pieces; for src/finder.rt and src/speller.rt.
use Rattle.std.proofs.Common.{◌≡◌, ℕ, zero, suc, ◌+◌, ◌*◌, ◌<◌, ◌≤◌, ◌^◌, ◌||◌, map, length, take, drop, get_or, reverse, List, [], ◌∷◌, ◌++◌, unwrap_or, arith, refl, sym, ap, subst, ◌∙◌, Bor, append_assoc, append-nil}
use Rattle.std.proofs.Math.Seq.{take-append_seam, drop-append_seam}
use Rattle.std.proofs.lemmas.List.{length-drop, length-append, map-append, take-append-drop, drop-drop, nil_from_length, reverse-append, take_all}
use Rattle.std.specs.List.{slice_get, list_any, flat_map}
use Rattle.std.specs.Str.{bytes_eq}
use Rattle.std.proofs.lemmas.List.Folds.{list_any-append}
use Rattle.sym_records.specs.Canon.{canon_text}
use Rattle.sym_records.specs.Validity.{first_bad_from}
use Rattle.sym_records.specs.declared.place.Place.TheVariants.{Inside}
use Rattle.sym_records.proofs.JoiningLemmas.{join_behind}
use Rattle.debug_units.specs.declared.unit_read.UnitRead.{UnitRead}
use Rattle.die_names.specs.declared.name_source.NameRef.{NameRef}
use Rattle.func_flatten.specs.declared.piece.Piece.{Piece}
use Rattle.inline_chain.specs.InlineRuns.{InlineParts}
use Rattle.func_records.specs.declared.numbers.Numbers.{Numbers}
use Rattle.func_records.specs.declared.found.FoundShare.{FoundShare}
use Rattle.func_records.specs.declared.path_list.PathRef.{PathRef}
use Rattle.func_records.specs.FuncRecords.{Part, pieces_of, AreLined, EndBelow, names_path}
use Rattle.func_records.specs.internal.Calls.{AreAllKnown}
use Rattle.func_records.specs.internal.Gathering.{path_at, has_path, AreHeld, Gathered, copies_of}
use Rattle.func_records.specs.internal.Origins.{made_name, entry_names, all_names, all_refs, all_numbers, name_number, ref_numbers}
use Rattle.func_records.specs.internal.Parts.{part_by, parts_by, AddsParts}
use Rattle.unit_workers.specs.Shares.{share}
use Rattle.func_records.specs.internal.Shares.{all_held, all_paths, IsFound, AreFound, AreSplit}
use Rattle.func_records.proofs.ListLemmas.{take_next, drop_next}
use Rattle.func_records.proofs.CanonLemmas.{canon_join}
use Rattle.func_records.proofs.HoldLemmas.{held_count}
use Rattle.func_records.proofs.OriginLemmas.{places_numbered}
use Rattle.func_records.proofs.PathLemmas.{gathered_none}
use Rattle.func_records.proofs.SpellLemmas.{parts_none}

share_first : {A : Type 0} (xs : List A) → share 512 0 xs ≡ take 512 xs
share_first xs = ap (λ n. take 512 (drop n xs)) (let none : 512 * 0 ≡ 0 = omega arith in none)

share_next : {A : Type 0} (k : ℕ) (xs : List A) → share 512 k (drop 512 xs) ≡ share 512 (suc k) xs
share_next k xs = ap (take 512) (drop-drop (512 * k) 512 xs ∙ ap (λ n. drop n xs) (let more : 512 + 512 * k ≡ 512 * suc k = omega arith in more))

-- What is made for each share is made for all shares.
pub shares_mapped : {X A B : Type 0} (f : X → List B) (g : A → B) (shares : List X) (xs : List A) → length xs ≤ 512 * length shares → ((k : ℕ) (d : X) → k < length shares → f (get_or shares k d) ≡ map g (share 512 k xs)) → flat_map f shares ≡ map g xs
shares_mapped f g [] xs inside each = sym (ap (map g) (nil_from_length xs (omega (arith, inside))))
shares_mapped f g (s ∷ shares) xs inside each =
    ap (λ l. l ++ flat_map f shares) (each 0 s (omega arith) ∙ ap (map g) (share_first xs))
    ∙ ap (λ l. map g (take 512 xs) ++ l) (shares_mapped f g shares (drop 512 xs) (omega (arith, inside, length-drop 512 xs)) (λ k d below. each (suc k) d (omega (arith, below)) ∙ ap (map g) (sym (share_next k xs))))
    ∙ sym (map-append g (take 512 xs) (drop 512 xs)) ∙ ap (map g) (take-append-drop 512 xs)

-- Lists that are taken from the end of the reversed list.
pub pop_next : {X A : Type 0} (f : X → List A) (left less : List X) (one : X) (made more all : List A) → left ≡ less ++ one ∷ [] → more ≡ made ++ f one → made ++ flat_map f (reverse left) ≡ all → more ++ flat_map f (reverse less) ≡ all
pop_next f left less one made more all is grown so =
    ap (λ m. m ++ flat_map f (reverse less)) grown
    ∙ append_assoc made (f one) (flat_map f (reverse less))
    ∙ ap (λ l. made ++ flat_map f l) (sym (ap reverse is ∙ reverse-append less (one ∷ [])))
    ∙ so

pub pop_all : {X A : Type 0} (f : X → List A) (left : List X) (made all : List A) → left ≡ [] → made ++ flat_map f (reverse left) ≡ all → made ≡ all
pop_all f left made all none so = sym (append-nil made) ∙ ap (λ l. made ++ flat_map f (reverse l)) (sym none) ∙ so

-- The copies of all shares.
held_joined : (units : List UnitRead) (pieces more : List Piece) (held others : List (List InlineParts)) → AreHeld units pieces held → AreHeld units more others → AreHeld units (pieces ++ more) (held ++ others)
held_joined units [] more [] others are later = later
held_joined units [] more (h ∷ held) others are later = absurd are
held_joined units (p ∷ pieces) more [] others are later = absurd are
held_joined units (p ∷ pieces) more (h ∷ held) others are later = (are.0, held_joined units pieces more held others are.1 later)

-- The paths of all shares.
known_joined : (units : List UnitRead) (parts more : List Part) → AreAllKnown units parts → AreAllKnown units more → AreAllKnown units (parts ++ more)
known_joined units [] more known later = later
known_joined units (p ∷ parts) more known later = (known.0, known_joined units parts more known.1 later)

lined_joined : (units : List UnitRead) (parts more : List Part) → AreLined units parts → AreLined units more → AreLined units (parts ++ more)
lined_joined units [] more are later = later
lined_joined units (p ∷ parts) more are later = (are.0, lined_joined units parts more are.1 later)

gathered_joined : (units : List UnitRead) (pieces more : List Piece) (held others : List (List InlineParts)) (refs rest : List PathRef) → Gathered units pieces held (has_path units refs) → Gathered units more others (has_path units rest) → Gathered units (pieces ++ more) (held ++ others) (has_path units (refs ++ rest))
gathered_joined units pieces more held others refs rest first second = record {
  parts = first.parts ++ second.parts;
  pieces_are = map-append (λ (p : Part). p.piece) first.parts second.parts ∙ ap (λ ps. ps ++ pieces_of second.parts) first.pieces_are ∙ ap (λ ps. pieces ++ ps) second.pieces_are;
  copies_are = map-append (λ (p : Part). p.copies) first.parts second.parts ∙ ap (λ cs. cs ++ copies_of second.parts) first.copies_are ∙ ap (λ cs. held ++ cs) second.copies_are;
  lines_are = lined_joined units first.parts second.parts first.lines_are second.lines_are;
  known = known_joined units first.parts second.parts first.known second.known;
  same = λ path. list_any-append (λ (r : PathRef). bytes_eq path (path_at units r)) refs rest
      ∙ ap (λ b. b || has_path units rest path) (first.same path) ∙ ap (λ b. list_any (names_path units path) first.parts || b) (second.same path)
      ∙ sym (list_any-append (names_path units path) first.parts second.parts);
}

-- The names of a share.
names_joined : (units : List UnitRead) (pieces more : List Piece) (held others : List (List InlineParts)) → length held ≡ length pieces → all_names units (pieces ++ more) (held ++ others) ≡ all_names units pieces held ++ all_names units more others
names_joined units [] more [] others same = refl
names_joined units [] more (h ∷ held) others same = absurd (omega (arith, same))
names_joined units (p ∷ pieces) more [] others same = absurd (omega (arith, same))
names_joined units (p ∷ pieces) more (h ∷ held) others same =
    ap (λ ns. entry_names units p.unit h ++ ns) (names_joined units pieces more held others (omega (arith, same)))
    ∙ sym (append_assoc (entry_names units p.unit h) (all_names units pieces held) (all_names units more others))

names_had : (units : List UnitRead) (pieces more : List Piece) (held others : List (List InlineParts)) (refs rest : List NameRef) (name : List ℕ) → length held ≡ length pieces → list_any (bytes_eq name) (map (made_name units) refs) ≡ list_any (bytes_eq name) (all_names units pieces held) → list_any (bytes_eq name) (map (made_name units) rest) ≡ list_any (bytes_eq name) (all_names units more others) → list_any (bytes_eq name) (map (made_name units) (refs ++ rest)) ≡ list_any (bytes_eq name) (all_names units (pieces ++ more) (held ++ others))
names_had units pieces more held others refs rest name same first second =
    ap (list_any (bytes_eq name)) (map-append (made_name units) refs rest)
    ∙ list_any-append (bytes_eq name) (map (made_name units) refs) (map (made_name units) rest)
    ∙ ap (λ b. b || list_any (bytes_eq name) (map (made_name units) rest)) first ∙ ap (λ b. list_any (bytes_eq name) (all_names units pieces held) || b) second
    ∙ sym (ap (list_any (bytes_eq name)) (names_joined units pieces more held others same) ∙ list_any-append (bytes_eq name) (all_names units pieces held) (all_names units more others))

-- What is found for all shares is found for all pieces.
pub record AreJoined (units : List UnitRead) (pieces : List Piece) (shares : List FoundShare) : Type 0 where
  pub held : AreHeld units pieces (all_held shares)
  pub names : (name : List ℕ) → list_any (bytes_eq name) (map (made_name units) (all_refs shares)) ≡ list_any (bytes_eq name) (all_names units pieces (all_held shares))
  pub paths : Gathered units pieces (all_held shares) (has_path units (all_paths shares))

found_joined : (units : List UnitRead) (pieces more : List Piece) (s : FoundShare) (shares : List FoundShare) → IsFound units pieces s → AreJoined units more shares → AreJoined units (pieces ++ more) (s ∷ shares)
found_joined units pieces more s shares first second = record {
  held = held_joined units pieces more s.held (all_held shares) first.held second.held;
  names = λ name. names_had units pieces more s.held (all_held shares) s.refs.items (all_refs shares) name (held_count units pieces s.held first.held) (first.names.same name) (second.names name);
  paths = gathered_joined units pieces more s.held (all_held shares) s.paths.items (all_paths shares) first.paths second.paths;
}

found_shares : (units : List UnitRead) (shares : List FoundShare) (pieces : List Piece) → length pieces ≤ 512 * length shares → ((k : ℕ) (d : FoundShare) → k < length shares → IsFound units (share 512 k pieces) (get_or shares k d)) → AreJoined units pieces shares
found_shares units [] pieces inside each = subst (λ (ps : List Piece). AreJoined units ps []) (sym (nil_from_length pieces (omega (arith, inside)))) (record { held = tt; names = λ name. refl; paths = gathered_none units [] refl })
found_shares units (s ∷ shares) pieces inside each =
    subst (λ (ps : List Piece). AreJoined units ps (s ∷ shares)) (take-append-drop 512 pieces)
    (found_joined units (take 512 pieces) (drop 512 pieces) s shares
    (subst (λ (ps : List Piece). IsFound units ps s) (share_first pieces) (each 0 s (omega arith)))
    (found_shares units shares (drop 512 pieces) (omega (arith, inside, length-drop 512 pieces))
    (λ k d below. subst (λ (ps : List Piece). IsFound units ps (get_or shares k d)) (sym (share_next k pieces)) (each (suc k) d (omega (arith, below))))))

pub all_found : (units : List UnitRead) (pieces : List Piece) (shares : List FoundShare) → AreFound units pieces shares → AreJoined units pieces shares
all_found units pieces shares found = found_shares units shares pieces found.enough found.each

-- The numbers of the names of each share.
pub split_push : (numbers : Numbers) (units : List UnitRead) (shares : List FoundShare) (split : List (Bor (List ℕ))) (s : FoundShare) (here : Bor (List ℕ)) → AreSplit numbers units shares split → here.now ≡ ref_numbers numbers units s.refs.items → AreSplit numbers units (shares ++ s ∷ []) (split ++ here ∷ [])
split_push numbers units [] [] s here are is = (is, tt)
split_push numbers units [] (h ∷ split) s here are is = absurd are
split_push numbers units (f ∷ shares) [] s here are is = absurd are
split_push numbers units (f ∷ shares) (h ∷ split) s here are is = (are.0, split_push numbers units shares split s here are.1 is)

pub split_next : (numbers : Numbers) (units : List UnitRead) (shares : List FoundShare) (k : ℕ) (d : FoundShare) (split more : List (Bor (List ℕ))) (here : Bor (List ℕ)) → k < length shares → AreSplit numbers units (take k shares) split → more ≡ split ++ here ∷ [] → here.now ≡ ref_numbers numbers units (get_or shares k d).refs.items → AreSplit numbers units (take (k + 1) shares) more
split_next numbers units shares k d split more here below are grown is =
    subst (λ (ss : List FoundShare). AreSplit numbers units ss more) (sym (take_next shares k d below))
    (subst (AreSplit numbers units (take k shares ++ get_or shares k d ∷ [])) (sym grown) (split_push numbers units (take k shares) split (get_or shares k d) here are is))

pub split_all : (numbers : Numbers) (units : List UnitRead) (shares : List FoundShare) (k : ℕ) (split : List (Bor (List ℕ))) → length shares ≤ k → AreSplit numbers units (take k shares) split → AreSplit numbers units shares split
split_all numbers units shares k split all are = subst (λ (ss : List FoundShare). AreSplit numbers units ss split) (take_all k shares all) are

pub split_count : (numbers : Numbers) (units : List UnitRead) (shares : List FoundShare) (split : List (Bor (List ℕ))) → AreSplit numbers units shares split → length split ≡ length shares
split_count numbers units [] [] are = refl
split_count numbers units [] (h ∷ split) are = absurd are
split_count numbers units (f ∷ shares) [] are = absurd are
split_count numbers units (f ∷ shares) (h ∷ split) are = ap suc (split_count numbers units shares split are.1)

pub split_at : (numbers : Numbers) (units : List UnitRead) (shares : List FoundShare) (split : List (Bor (List ℕ))) (k : ℕ) (d : Bor (List ℕ)) (e : FoundShare) → k < length shares → AreSplit numbers units shares split → (get_or split k d).now ≡ ref_numbers numbers units (get_or shares k e).refs.items
split_at numbers units [] split k d e below are = absurd (omega (arith, below))
split_at numbers units (f ∷ shares) [] k d e below are = absurd are
split_at numbers units (f ∷ shares) (h ∷ split) zero d e below are = are.0
split_at numbers units (f ∷ shares) (h ∷ split) (suc k) d e below are = split_at numbers units shares split k d e (omega (arith, below)) are.1

count_numbers : (numbers : Numbers) (units : List UnitRead) (refs : List NameRef) → length (ref_numbers numbers units refs) ≡ length refs
count_numbers numbers units [] = refl
count_numbers numbers units (r ∷ refs) = ap suc (count_numbers numbers units refs)

numbers_apart : (numbers : Numbers) (units : List UnitRead) (shares : List FoundShare) (k : ℕ) (d : FoundShare) → k < length shares → ref_numbers numbers units (all_refs (drop k shares)) ≡ ref_numbers numbers units (get_or shares k d).refs.items ++ ref_numbers numbers units (all_refs (drop (k + 1) shares))
numbers_apart numbers units shares k d below =
    ap (λ (ss : List FoundShare). ref_numbers numbers units (all_refs ss)) (drop_next shares k d below)
    ∙ ap (map (name_number numbers units)) (map-append (made_name units) (get_or shares k d).refs.items (all_refs (drop (k + 1) shares)))
    ∙ map-append (name_number numbers units) (map (made_name units) (get_or shares k d).refs.items) (map (made_name units) (all_refs (drop (k + 1) shares)))

pub numbers_left : (numbers : Numbers) (units : List UnitRead) (shares : List FoundShare) (k : ℕ) (d : FoundShare) (rest : List ℕ) → k < length shares → rest ≡ ref_numbers numbers units (all_refs (drop k shares)) → length (get_or shares k d).refs.items ≤ length rest
numbers_left numbers units shares k d rest below is =
    let here = ref_numbers numbers units (get_or shares k d).refs.items in
    let later = ref_numbers numbers units (all_refs (drop (k + 1) shares)) in
    let whole : length rest ≡ length here + length later = ap length (is ∙ numbers_apart numbers units shares k d below) ∙ length-append here later in
    omega (arith, whole, count_numbers numbers units (get_or shares k d).refs.items)

pub numbers_front : (numbers : Numbers) (units : List UnitRead) (shares : List FoundShare) (k : ℕ) (d : FoundShare) (rest : List ℕ) → k < length shares → rest ≡ ref_numbers numbers units (all_refs (drop k shares)) → take (length (get_or shares k d).refs.items) rest ≡ ref_numbers numbers units (get_or shares k d).refs.items
numbers_front numbers units shares k d rest below is =
    let here = ref_numbers numbers units (get_or shares k d).refs.items in
    ap (take (length (get_or shares k d).refs.items)) (is ∙ numbers_apart numbers units shares k d below)
    ∙ ap (λ n. take n (here ++ ref_numbers numbers units (all_refs (drop (k + 1) shares)))) (sym (count_numbers numbers units (get_or shares k d).refs.items))
    ∙ take-append_seam here (ref_numbers numbers units (all_refs (drop (k + 1) shares)))

pub numbers_behind : (numbers : Numbers) (units : List UnitRead) (shares : List FoundShare) (k : ℕ) (d : FoundShare) (rest : List ℕ) → k < length shares → rest ≡ ref_numbers numbers units (all_refs (drop k shares)) → drop (length (get_or shares k d).refs.items) rest ≡ ref_numbers numbers units (all_refs (drop (k + 1) shares))
numbers_behind numbers units shares k d rest below is =
    let here = ref_numbers numbers units (get_or shares k d).refs.items in
    ap (drop (length (get_or shares k d).refs.items)) (is ∙ numbers_apart numbers units shares k d below)
    ∙ ap (λ n. drop n (here ++ ref_numbers numbers units (all_refs (drop (k + 1) shares)))) (sym (count_numbers numbers units (get_or shares k d).refs.items))
    ∙ drop-append_seam here (ref_numbers numbers units (all_refs (drop (k + 1) shares)))

-- The numbers of the names of a share's copies.
pub share_numbers : (numbers : Numbers) (units : List UnitRead) (pieces : List Piece) (s : FoundShare) (known : List ℕ) → IsFound units pieces s → known ≡ ref_numbers numbers units s.refs.items → map (λ k. unwrap_or (slice_get known k) 0) s.places.items ≡ all_numbers numbers units pieces s.held
share_numbers numbers units pieces s known found is =
    places_numbered (name_number numbers units) (map (made_name units) s.refs.items) known s.places.items (all_names units pieces s.held) is found.names.at

-- The records of all shares.
below_joined : (limit : ℕ) (pieces more : List Piece) → EndBelow limit pieces → EndBelow limit more → EndBelow limit (pieces ++ more)
below_joined limit [] more below later = later
below_joined limit (p ∷ pieces) more below later = (below.0, below_joined limit pieces more below.1 later)

text_parts : (base : ℕ) (numbers : Numbers) (units : List UnitRead) (parts more : List Part) → parts_by base numbers units (parts ++ more) ≡ parts_by base numbers units parts ++ parts_by base numbers units more
text_parts base numbers units [] more = refl
text_parts base numbers units (p ∷ parts) more =
    ap (λ l. part_by base numbers units p ++ l) (text_parts base numbers units parts more)
    ∙ sym (append_assoc (part_by base numbers units p) (parts_by base numbers units parts) (parts_by base numbers units more))

parts_joined : (base : ℕ) (numbers : Numbers) (units : List UnitRead) (pieces more : List Piece) (held others : List (List InlineParts)) (old mid new : List ℕ) → AddsParts base numbers units pieces held old mid → AddsParts base numbers units more others [] new → AddsParts base numbers units (pieces ++ more) (held ++ others) old (mid ++ new)
parts_joined base numbers units pieces more held others old mid new first second = record {
  parts = first.parts ++ second.parts;
  pieces_are = map-append (λ (p : Part). p.piece) first.parts second.parts ∙ ap (λ ps. ps ++ pieces_of second.parts) first.pieces_are ∙ ap (λ ps. pieces ++ ps) second.pieces_are;
  copies_are = map-append (λ (p : Part). p.copies) first.parts second.parts ∙ ap (λ cs. cs ++ copies_of second.parts) first.copies_are ∙ ap (λ cs. held ++ cs) second.copies_are;
  lines_are = lined_joined units first.parts second.parts first.lines_are second.lines_are;
  text = ap (λ t. t ++ new) first.text ∙ ap (λ t. (old ++ canon_text (parts_by base numbers units first.parts)) ++ t) second.text
      ∙ append_assoc old (canon_text (parts_by base numbers units first.parts)) (canon_text (parts_by base numbers units second.parts))
      ∙ ap (λ t. old ++ t) (sym (ap canon_text (text_parts base numbers units first.parts second.parts) ∙ canon_join (parts_by base numbers units first.parts) (parts_by base numbers units second.parts)));
  fit = ap (first_bad_from 0 Inside) (text_parts base numbers units first.parts second.parts) ∙ join_behind (parts_by base numbers units first.parts) (parts_by base numbers units second.parts) first.fit second.fit;
  below = below_joined (2 ^ 64) pieces more first.below second.below;
}

shares_spelled : {X : Type 0} (f : X → List ℕ) (base : ℕ) (numbers : Numbers) (units : List UnitRead) (texts : List X) (shares : List FoundShare) (pieces : List Piece) → length texts ≡ length shares → length pieces ≤ 512 * length shares → ((k : ℕ) (d : X) (e : FoundShare) → k < length shares → AddsParts base numbers units (share 512 k pieces) (get_or shares k e).held [] (f (get_or texts k d))) → AddsParts base numbers units pieces (all_held shares) [] (flat_map f texts)
shares_spelled f base numbers units [] [] pieces same inside each =
    subst (λ (ps : List Piece). AddsParts base numbers units ps [] [] []) (sym (nil_from_length pieces (omega (arith, inside)))) (parts_none base numbers units [])
shares_spelled f base numbers units [] (s ∷ shares) pieces same inside each = absurd (omega (arith, same))
shares_spelled f base numbers units (t ∷ texts) [] pieces same inside each = absurd (omega (arith, same))
shares_spelled f base numbers units (t ∷ texts) (s ∷ shares) pieces same inside each =
    subst (λ (ps : List Piece). AddsParts base numbers units ps (s.held ++ all_held shares) [] (f t ++ flat_map f texts)) (take-append-drop 512 pieces)
    (parts_joined base numbers units (take 512 pieces) (drop 512 pieces) s.held (all_held shares) [] (f t) (flat_map f texts)
    (subst (λ (ps : List Piece). AddsParts base numbers units ps s.held [] (f t)) (share_first pieces) (each 0 t s (omega arith)))
    (shares_spelled f base numbers units texts shares (drop 512 pieces)
    (omega (arith, same)) (omega (arith, inside, length-drop 512 pieces))
    (λ k d e below.
    subst (λ (ps : List Piece). AddsParts base numbers units ps (get_or shares k e).held [] (f (get_or texts k d))) (sym (share_next k pieces))
    (each (suc k) d e (omega (arith, below))))))

pub shares_added : {X : Type 0} (f : X → List ℕ) (base : ℕ) (numbers : Numbers) (units : List UnitRead) (texts : List X) (shares : List FoundShare) (pieces : List Piece) (old new : List ℕ) → length texts ≡ length shares → length pieces ≤ 512 * length shares → ((k : ℕ) (d : X) (e : FoundShare) → k < length shares → AddsParts base numbers units (share 512 k pieces) (get_or shares k e).held [] (f (get_or texts k d))) → new ≡ old ++ flat_map f texts → AddsParts base numbers units pieces (all_held shares) old new
shares_added f base numbers units texts shares pieces old new same inside each is =
    subst (λ (t : List ℕ). AddsParts base numbers units pieces (all_held shares) old t) (sym is)
    (parts_joined base numbers units [] pieces [] (all_held shares) old old (flat_map f texts) (parts_none base numbers units old) (shares_spelled f base numbers units texts shares pieces same inside each))
