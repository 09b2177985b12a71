-- A list of members is given by its first reading; and the steps of a loop that reads such a list.
use Rattle.std.proofs.Common.{◌≡◌, ◌<◌, ◌≤◌, ◌+◌, ℕ, zero, suc, Bool, true, false, cond, List, [], ◌∷◌, ◌++◌, length, Option, None, Some, Result, Ok, Err, refl, sym, ap, subst, ◌∙◌, arith, append_assoc, append-nil}
use Rattle.sym_edges.specs.Results.{◌>>=◌}
use Rattle.leb_cursor.specs.Ahead.{Ahead}
use Rattle.leb_cursor.specs.Passes.{Passes}
use Rattle.leb_cursor.specs.Lists.{list_by, list_in, list_at, list_cases, GoesOn}

-- A reading that passes at least `more` bytes passes at least any smaller number of bytes.
pub weaker : {A E : Type 0} (reading : Result (A × Ahead) E) (more least : ℕ) (c : Ahead) → least ≤ more → Passes more c reading → Passes least c reading
weaker (Ok x) more least c fewer goes = (omega (arith, goes.0), goes.1)
weaker (Err fault) more least c fewer goes = tt

-- If both readings pass at least `least` bytes, so does the one that the test chooses.
pub either_passes : {A E : Type 0} (test : Bool) (given other : Result (A × Ahead) E) (least : ℕ) (c : Ahead) → Passes least c given → Passes least c other → Passes least c (cond test given other)
either_passes true given other least c first second = first
either_passes false given other least c first second = second

-- Two ways to read the later members give the same list if they agree where fewer bytes are left.
same_by : {A E : Type 0} (first : Result (Option A × Ahead) E) (c : Ahead) (one two : Ahead → Result (List A × Ahead) E) → GoesOn c first → ((d : Ahead) → length d.bytes + 1 ≤ length c.bytes → one d ≡ two d) → (first >>= λ x. list_by x.0 x.1 (one x.1)) ≡ (first >>= λ x. list_by x.0 x.1 (two x.1))
same_by (Ok (None, d)) c one two goes later = refl
same_by (Ok (Some x, d)) c one two goes later = ap (λ r. r >>= λ rest. Ok (x ∷ rest.0, rest.1)) (later d goes.0)
same_by (Err fault) c one two goes later = refl

-- More readings than there are bytes give the same list.
enough : {A E : Type 0} (read : Ahead → Result (Option A × Ahead) E) → ((c : Ahead) → GoesOn c (read c)) → (m n : ℕ) (c : Ahead) → length c.bytes < m → length c.bytes < n → list_in read m c ≡ list_in read n c
unfolding list_in
enough read goes zero n c first second = absurd (omega arith)
enough read goes (suc m) zero c first second = absurd (omega arith)
enough read goes (suc m) (suc n) c first second =
    same_by (read c) c (list_in read m) (list_in read n) (goes c) (λ d shorter. enough read goes m n d (omega arith) (omega arith))

-- A list is given by its first reading.
pub list_follows : {A E : Type 0} (read : Ahead → Result (Option A × Ahead) E) → ((c : Ahead) → GoesOn c (read c)) → (c : Ahead) → list_at read c ≡ list_cases read c
unfolding list_at list_in
list_follows read goes c =
    same_by (read c) c (list_in read (length c.bytes)) (list_at read) (goes c) (λ d shorter. enough read goes (length c.bytes) (suc (length d.bytes)) d (omega arith) (omega arith))

-- A list never goes past the end of the bytes.
member_passes : {A E : Type 0} (later : Result (List A × Ahead) E) (x : A) (c d : Ahead) → length d.bytes ≤ length c.bytes → d.at + length d.bytes ≡ c.at + length c.bytes → Passes 0 d later → Passes 0 c (later >>= λ rest. Ok (x ∷ rest.0, rest.1))
member_passes (Ok rest) x c d shorter same passes = (omega (arith, passes.0), passes.1 ∙ same)
member_passes (Err fault) x c d shorter same passes = tt

by_passes : {A E : Type 0} (first : Result (Option A × Ahead) E) (later : Ahead → Result (List A × Ahead) E) (c : Ahead) → GoesOn c first → ((d : Ahead) → Passes 0 d (later d)) → Passes 0 c (first >>= λ x. list_by x.0 x.1 (later x.1))
by_passes (Ok (None, d)) later c goes passes = (omega (arith, goes.0), goes.1)
by_passes (Ok (Some x, d)) later c goes passes = member_passes (later d) x c d (omega (arith, goes.0)) goes.1 (passes d)
by_passes (Err fault) later c goes passes = tt

in_passes : {A E : Type 0} (read : Ahead → Result (Option A × Ahead) E) → ((c : Ahead) → GoesOn c (read c)) → (n : ℕ) (c : Ahead) → Passes 0 c (list_in read n c)
unfolding list_in
in_passes read goes zero c = (omega arith, refl)
in_passes read goes (suc n) c = by_passes (read c) (list_in read n) c (goes c) (λ d. in_passes read goes n d)

pub list_passes : {A E : Type 0} (read : Ahead → Result (Option A × Ahead) E) → ((c : Ahead) → GoesOn c (read c)) → (c : Ahead) → Passes 0 c (list_at read c)
unfolding list_at
list_passes read goes c = in_passes read goes (suc (length c.bytes)) c

-- The members that were read, followed by the members that are still to be read.
abbrev pub behind : {A E : Type 0} → List A → Result (List A × Ahead) E → Result (List A × Ahead) E
behind done later = later >>= λ rest. Ok (done ++ rest.0, rest.1)

pub none_behind : {A E : Type 0} (done : List A) (later : Result (List A × Ahead) E) → done ≡ [] → behind done later ≡ later
none_behind done (Ok rest) none = ap (λ xs. Ok (xs ++ rest.0, rest.1)) none
none_behind done (Err fault) none = refl

behind_more : {A E : Type 0} (done : List A) (x : A) (later : Result (List A × Ahead) E) → behind done (later >>= λ rest. Ok (x ∷ rest.0, rest.1)) ≡ behind (done ++ x ∷ []) later
behind_more done x (Ok rest) = ap (λ xs. Ok (xs, rest.1)) (sym (append_assoc done (x ∷ []) rest.0))
behind_more done x (Err fault) = refl

-- The steps of a loop that reads a list: a member is added, the list ends, or a reading fails.
pub list_more : {A E : Type 0} (read : Ahead → Result (Option A × Ahead) E) → ((c : Ahead) → GoesOn c (read c)) → (done more : List A) (x : A) (c d : Ahead) → Ok (Some x, d) ≡ read c → more ≡ done ++ x ∷ [] → behind done (list_at read c) ≡ behind more (list_at read d)
list_more read goes done more x c d is added =
    ap (behind done) (list_follows read goes c ∙ ap (λ first. first >>= λ y. list_by y.0 y.1 (list_at read y.1)) (sym is))
    ∙ behind_more done x (list_at read d)
    ∙ ap (λ xs. behind xs (list_at read d)) (sym added)

pub list_ends : {A E : Type 0} (read : Ahead → Result (Option A × Ahead) E) → ((c : Ahead) → GoesOn c (read c)) → (done : List A) (c d : Ahead) → Ok (None, d) ≡ read c → behind done (list_at read c) ≡ Ok (done, d)
list_ends read goes done c d is =
    ap (behind done) (list_follows read goes c ∙ ap (λ first. first >>= λ y. list_by y.0 y.1 (list_at read y.1)) (sym is))
    ∙ ap (λ xs. Ok (xs, d)) (append-nil done)

pub list_refused : {A E : Type 0} (read : Ahead → Result (Option A × Ahead) E) → ((c : Ahead) → GoesOn c (read c)) → (done : List A) (c : Ahead) (fault : E) → Err fault ≡ read c → behind done (list_at read c) ≡ Err fault
list_refused read goes done c fault is =
    ap (behind done) (list_follows read goes c ∙ ap (λ first. first >>= λ y. list_by y.0 y.1 (list_at read y.1)) (sym is))

-- A reading that passes at least one byte goes on.
pub goes_of : {A E : Type 0} (reading : Result (Option A × Ahead) E) (c : Ahead) → Passes 1 c reading → GoesOn c reading
goes_of (Ok (None, d)) c passes = (omega (arith, passes.0), passes.1)
goes_of (Ok (Some x, d)) c passes = passes
goes_of (Err fault) c passes = tt

-- After a member is read, fewer bytes are left.
pub shorter_by : {A E : Type 0} (reading : Result (Option A × Ahead) E) (x : A) (c d : Ahead) → GoesOn c reading → Ok (Some x, d) ≡ reading → length d.bytes < length c.bytes
shorter_by reading x c d goes is = let both = subst (GoesOn c) (sym is) goes in omega (arith, both.0)
