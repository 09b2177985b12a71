-- The keys of names.
use Rattle.std.proofs.Common.{◌≡◌, ◌≢◌, ℕ, zero, suc, ◌+◌, ◌-◌, ◌*◌, ◌%◌, ◌^◌, ◌<◌, ◌≤◌, ◌==◌, Bool, map, length, take, drop, get_or, min, List, [], ◌∷◌, ◌++◌, Option, None, Some, IfSome, arith, refl, sym, ap, ◌∙◌, subst, append-nil}
use Rattle.std.proofs.lemmas.Bool.Decides.{nat_tests}
use Rattle.std.proofs.lemmas.List.{take_min, take-map, map-append, length-append, length-map, length-take, nil_from_length, map-append, take-append-drop}
use Rattle.std.proofs.Math.Seq.{take-append-add}
use Rattle.clean_names.proofs.CleaningLemmas.{skip_shown}
use Rattle.clean_names.specs.Names.{is_space, skip}
use Rattle.clean_names.specs.Cleaning.{shown_byte, or_omitted, cleaned_upto, cleaned}
use Rattle.debug_units.specs.declared.unit_read.UnitRead.{UnitRead}
use Rattle.debug_units.specs.declared.unit_read.EntryRef.{EntryRef}
use Rattle.func_flatten.specs.declared.name_keys.NameKey.{NameKey}
use Rattle.func_flatten.specs.internal.ScopeFronts.{inner_front}
use Rattle.func_flatten.specs.internal.NameKeys.{kept_upto, kept, kept_more_upto, kept_more, begun, kept_part, mixed, hash_from, hash_of, IsKey}

-- ---- The bytes that are kept.

-- A cleaned name is what is kept of it, if anything is kept.
pub cleaned_kept : (bytes : List ℕ) → cleaned bytes ≡ or_omitted (kept bytes)
unfolding cleaned cleaned_upto kept kept_upto
cleaned_kept bytes = refl

-- Some bytes and the bytes after them, without the leading bytes that are skipped.
abbrev joined : List ℕ → List ℕ → List ℕ → List ℕ
joined [] skipped bytes = skipped
joined (x ∷ xs) skipped bytes = (x ∷ xs) ++ bytes

skip_joined : (p : ℕ → Bool) (xs ys : List ℕ) → skip p (xs ++ ys) ≡ joined (skip p xs) (skip p ys) ys
unfolding skip
skip_joined p [] ys = refl
skip_joined p (x ∷ xs) ys = grind (arith, nat_tests, skip_joined p xs ys)

take_taken : (n : ℕ) (xs ys : List ℕ) → take n (xs ++ ys) ≡ take n (take n xs ++ ys)
take_taken zero xs ys = refl
take_taken (suc n) [] ys = refl
take_taken (suc n) (x ∷ xs) ys = ap (λ l. x ∷ l) (take_taken n xs ys)

take_joined : (limit : ℕ) (front bytes : List ℕ) → take limit (joined front (skip is_space (map shown_byte bytes)) (map shown_byte bytes)) ≡ kept_more_upto limit (take limit front) bytes
unfolding kept_upto
take_joined zero front bytes = refl
take_joined (suc n) [] bytes = refl
take_joined (suc n) (x ∷ front) bytes = ap (λ l. x ∷ l) (take_taken n front (map shown_byte bytes))

kept_upto_more : (limit : ℕ) (raw bytes : List ℕ) → kept_upto limit (raw ++ bytes) ≡ kept_more_upto limit (kept_upto limit raw) bytes
unfolding kept_upto
kept_upto_more limit raw bytes =
    ap (λ l. take limit (skip is_space l)) (map-append shown_byte raw bytes)
    ∙ ap (take limit) (skip_joined is_space (map shown_byte raw) (map shown_byte bytes))
    ∙ take_joined limit (skip is_space (map shown_byte raw)) bytes

-- What is kept of two runs of bytes is what is kept of the first, extended by the second.
pub kept_joined : (raw bytes : List ℕ) → kept (raw ++ bytes) ≡ kept_more (kept raw) bytes
unfolding kept kept_more
kept_joined raw bytes = kept_upto_more 65536 raw bytes

pub begun_first : (n : ℕ) (bytes : List ℕ) → n ≡ 0 → begun n bytes ≡ skip is_space bytes
begun_first zero bytes is = refl
begun_first (suc n) bytes is = absurd (omega arith)

pub begun_later : (n : ℕ) (bytes : List ℕ) → n ≢ 0 → begun n bytes ≡ bytes
begun_later zero bytes some = absurd (some refl)
begun_later (suc n) bytes some = refl

pub part_is : (limit so_far : ℕ) (bytes rest front : List ℕ) → rest ≡ begun so_far bytes → front ≡ take (min (limit - so_far) (length rest)) rest → front ≡ kept_part limit so_far bytes
unfolding kept_part
part_is limit so_far bytes rest front is cut = cut ∙ take_min (limit - so_far) rest ∙ ap (take (limit - so_far)) is

more_upto : (limit : ℕ) (text bytes : List ℕ) → length text ≤ limit → kept_more_upto limit text bytes ≡ text ++ map shown_byte (kept_part limit (length text) bytes)
unfolding kept_upto kept_part
more_upto limit [] bytes short =
    let same : limit ≡ limit - 0 = omega arith in
    ap (take limit) (skip_shown bytes) ∙ take-map shown_byte limit (skip is_space bytes) ∙ ap (λ n. map shown_byte (take n (skip is_space bytes))) same
more_upto limit (b ∷ text) bytes short =
    let same : limit ≡ length (b ∷ text) + (limit - length (b ∷ text)) = omega arith in
    ap (λ n. take n ((b ∷ text) ++ map shown_byte bytes)) same
    ∙ take-append-add (b ∷ text) (map shown_byte bytes) (limit - length (b ∷ text))
    ∙ ap (λ l. (b ∷ text) ++ l) (take-map shown_byte (limit - length (b ∷ text)) bytes)

part_short : (limit so_far : ℕ) (bytes : List ℕ) → length (kept_part limit so_far bytes) ≤ limit - so_far
unfolding kept_part
part_short limit so_far bytes = omega (arith, length-take (limit - so_far) (begun so_far bytes))

-- Nothing is kept of the empty text.
pub kept_none : kept [] ≡ []
unfolding kept kept_upto skip
kept_none = refl

-- ---- Hashes.

hash_joined : (hash : ℕ) (xs ys : List ℕ) → hash_from hash (xs ++ ys) ≡ hash_from (hash_from hash xs) ys
unfolding hash_from
hash_joined hash [] ys = refl
hash_joined hash (x ∷ xs) ys = hash_joined (mixed hash x) xs ys

pub hash_first : (hash b : ℕ) (bytes : List ℕ) → hash_from hash (b ∷ bytes) ≡ hash_from (mixed hash b) bytes
unfolding hash_from
hash_first hash b bytes = refl

pub hash_none : (hash : ℕ) → hash_from hash [] ≡ hash
unfolding hash_from
hash_none hash = refl

-- Four bytes at once: the fourth power of the factor, modulo 2^64, stands for four steps.
pub four_steps : (h a b c d : ℕ) → h < 2 ^ 64 → a < 256 → b < 256 → c < 256 → d < 256
    → mixed (mixed (mixed (mixed h a) b) c) d ≡ (h * 15655466665053923249 % 18446744073709551616 + mixed (mixed (mixed a b) c) d) % 18446744073709551616
unfolding mixed
four_steps h a b c d p q r s t = omega (arith, p, q, r, s, t)

pub hash_four : (h : ℕ) (front : List ℕ) → length front ≡ 4
    → hash_from h (map shown_byte front) ≡ mixed (mixed (mixed (mixed h (shown_byte (get_or front 0 0))) (shown_byte (get_or front 1 0))) (shown_byte (get_or front 2 0))) (shown_byte (get_or front 3 0))
unfolding hash_from
hash_four h (a ∷ b ∷ c ∷ d ∷ []) four = refl
hash_four h [] four = absurd (omega (arith, four))
hash_four h (a ∷ []) four = absurd (omega (arith, four))
hash_four h (a ∷ b ∷ []) four = absurd (omega (arith, four))
hash_four h (a ∷ b ∷ c ∷ []) four = absurd (omega (arith, four))
hash_four h (a ∷ b ∷ c ∷ d ∷ e ∷ more) four = absurd (omega (arith, four))

pub hash_end : (h whole : ℕ) (rest : List ℕ) → length rest ≡ 0 → hash_from h (map shown_byte rest) ≡ whole → h ≡ whole
hash_end h whole [] none is = sym (hash_none h) ∙ is
hash_end h whole (b ∷ rest) none is = absurd (omega (arith, none))

-- The hash of a text in two parts.
pub hash_parted : (h : ℕ) (bytes : List ℕ) (n : ℕ) → hash_from (hash_from h (map shown_byte (take n bytes))) (map shown_byte (drop n bytes)) ≡ hash_from h (map shown_byte bytes)
hash_parted h bytes n =
    sym (hash_joined h (map shown_byte (take n bytes)) (map shown_byte (drop n bytes)))
    ∙ ap (hash_from h) (sym (map-append shown_byte (take n bytes) (drop n bytes)) ∙ ap (map shown_byte) (take-append-drop n bytes))

-- ---- Keys.

pub empty_key : (units : List UnitRead) (key : NameKey) → key ≡ record { hash = 0; length = 0; root = None } → IsKey units key (kept [])
empty_key units key is = subst (λ k. IsKey units k (kept [])) (sym is) (subst (IsKey units (record { hash = 0; length = 0; root = None })) (sym kept_none) (record { hash_is = sym (hash_none 0); length_is = refl; short = omega arith; root_is = tt }))

pub empty_is : (units : List UnitRead) (key : NameKey) (text : List ℕ) → IsKey units key text → (key.length == 0) ≡ (length text == 0)
empty_is units key text of = ap (λ n. n == 0) of.length_is

-- A full text has no room for more bytes.
full_kept : (text bytes front : List ℕ) (long : ℕ) → length front ≤ 65536 - long → long ≡ length text → text ++ map shown_byte front ≡ kept_more text bytes → length text ≡ 65536 → kept_more text bytes ≡ text
full_kept text bytes front long room is whole full =
    let none : front ≡ [] = nil_from_length front (omega (arith, room, is, full)) in
    sym whole ∙ ap (λ l. text ++ map shown_byte l) none ∙ append-nil text

root_kept : (units : List UnitRead) (root : Option EntryRef) (text more : List ℕ) → (length text ≡ 65536 → more ≡ text) → IfSome root (λ r. (length text ≡ 65536) × (text ≡ kept (inner_front units r.unit r.entry))) → IfSome root (λ r. (length more ≡ 65536) × (more ≡ kept (inner_front units r.unit r.entry)))
root_kept units None text more same is = tt
root_kept units (Some r) text more same is = (ap length (same is.0) ∙ is.0, same is.0 ∙ is.1)

-- The key of a text to which bytes were added.
pub key_added : (units : List UnitRead) (key : NameKey) (text bytes front : List ℕ) (hash long : ℕ) → front ≡ kept_part 65536 key.length bytes → hash ≡ hash_from key.hash (map shown_byte front) → long ≡ min (key.length + length front) (2 ^ 64 - 1) → IsKey units key text → IsKey units (record { hash = hash; length = long; root = key.root }) (kept_more text bytes)
unfolding kept_more
key_added units key text bytes front hash long part run sum of =
    let whole : text ++ map shown_byte front ≡ kept_more_upto 65536 text bytes = rw (part, of.length_is) (sym (more_upto 65536 text bytes of.short)) in
    let room : length front ≤ 65536 - key.length = rw part (part_short 65536 key.length bytes) in
    let joined : length (text ++ map shown_byte front) ≡ length text + length front = simp (length-append, length-map) in
    let all : length (kept_more_upto 65536 text bytes) ≡ length text + length front = sym (ap length whole) ∙ joined in
    record {
      hash_is = run ∙ ap (λ h. hash_from h (map shown_byte front)) of.hash_is ∙ sym (hash_joined 0 text (map shown_byte front)) ∙ ap hash_of whole;
      length_is = omega (arith, sum, of.length_is, of.short, room, all);
      short = omega (arith, of.length_is, of.short, room, all);
      root_is = root_kept units key.root text (kept_more_upto 65536 text bytes) (full_kept text bytes front key.length room of.length_is whole) of.root_is;
    }

-- The key of a full text that an entry and the scopes around it give.
pub key_rooted : (units : List UnitRead) (key : NameKey) (unit entry : ℕ) → key.length ≡ 65536 → IsKey units key (kept (inner_front units unit entry)) → IsKey units (record { hash = key.hash; length = key.length; root = Some (record { unit = unit; entry = entry }) }) (kept (inner_front units unit entry))
key_rooted units key unit entry full of = record { hash_is = of.hash_is; length_is = of.length_is; short = of.short; root_is = (sym of.length_is ∙ full, refl) }
