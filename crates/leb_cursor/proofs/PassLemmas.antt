-- How many bytes each reading passes.
use Rattle.std.proofs.Common.{◌≡◌, ◌<◌, ◌≤◌, ◌+◌, ◌^◌, ℕ, Bool, true, false, nat_lt, nat_eq, cond, List, length, take, Option, None, Some, Result, Ok, Err, refl, ap, arith}
use Rattle.std.specs.Option.{option_map}
use Rattle.std.specs.List.{position}
use Rattle.std.proofs.lemmas.Bool.{ltb-false}
use Rattle.std.proofs.lemmas.List.{length-drop, length-take}
use Rattle.std.proofs.lemmas.List.Quantifiers.{position-Some}
use Rattle.sym_edges.specs.Results.{◌>>=◌}
use Rattle.leb_cursor.specs.Ahead.{Ahead, passed}
use Rattle.leb_cursor.specs.Passes.{Passes}
use Rattle.leb_cursor.specs.Texts.{front_text}
use Rattle.sym_edges.specs.Integers.{fits_i64}
use Rattle.leb_cursor.specs.Readings.{fixed_at, leb_length, leb_sum, sleb_sum, uleb_at, uleb_by, sleb_at, sleb_by, text_at, text_by, take_at, part_at}

-- Passing n bytes passes n bytes, if there are that many.
passed_by : (n least : ℕ) (c : Ahead) → n ≤ length c.bytes → least ≤ n → (length (passed n c).bytes + least ≤ length c.bytes) × ((passed n c).at + length (passed n c).bytes ≡ c.at + length c.bytes)
unfolding passed
passed_by n least c there enough =
    (rw length-drop (omega arith), rw length-drop (omega arith))

-- A reading that fails if a test is true.
refused_by : {A E : Type 0} (test : Bool) (fault : E) (value : A) (n least : ℕ) (c : Ahead) → (test ≡ false → (n ≤ length c.bytes) × (least ≤ n)) → Passes least c (cond test (Err fault) (Ok (value, passed n c)))
refused_by true fault value n least c fits = tt
refused_by false fault value n least c fits = passed_by n least c (fits refl).0 (fits refl).1

-- A reading that succeeds if a test is true.
passes_by : {A E : Type 0} (test : Bool) (fault : E) (value : A) (n least : ℕ) (c : Ahead) → n ≤ length c.bytes → least ≤ n → Passes least c (cond test (Ok (value, passed n c)) (Err fault))
passes_by true fault value n least c there enough = passed_by n least c there enough
passes_by false fault value n least c there enough = tt

pub fixed_passes : (width : ℕ) (c : Ahead) → Passes width c (fixed_at width c)
unfolding fixed_at
fixed_passes width c = refused_by (nat_lt (length c.bytes) width) _ _ width width c (λ long. (ltb-false _ _ long, omega arith))

pub take_passes : (n : ℕ) (c : Ahead) → Passes n c (take_at n c)
unfolding take_at
take_passes n c = refused_by (nat_lt (length c.bytes) n) _ _ n n c (λ long. (ltb-false _ _ long, omega arith))

pub part_passes : (n : ℕ) (c : Ahead) → Passes n c (part_at n c)
unfolding part_at
part_passes n c = refused_by (nat_lt (length c.bytes) n) _ _ n n c (λ long. (ltb-false _ _ long, omega arith))

-- A LEB128 has at least one byte, and all its bytes are there.
length_there : (bytes : List ℕ) (found : Option ℕ) (count : ℕ) → position (λ byte. nat_lt byte 128) (take 10 bytes) ≡ found → option_map (λ (k : ℕ). k + 1) found ≡ Some count → (count ≤ length bytes) × (1 ≤ count)
length_there bytes None count found is = cc
length_there bytes (Some k) count found is =
    let at = position-Some (λ byte. nat_lt byte 128) (take 10 bytes) k 0 found in
    let below : k < length (take 10 bytes) = at.0 in
    let same : k + 1 ≡ count = cc in
    (omega (arith, length-take 10 bytes), omega arith)

uleb_by_passes : (c : Ahead) (count : Option ℕ) → leb_length c.bytes ≡ count → Passes 1 c (uleb_by c count)
unfolding leb_length
uleb_by_passes c None is = tt
uleb_by_passes c (Some count) is =
    let there = length_there c.bytes _ count refl is in
    passes_by (nat_lt (leb_sum count c.bytes) (2 ^ 64)) _ _ count 1 c there.0 there.1

pub uleb_passes : (c : Ahead) → Passes 1 c (uleb_at c)
unfolding uleb_at
uleb_passes c = uleb_by_passes c (leb_length c.bytes) refl

sleb_by_passes : (c : Ahead) (count : Option ℕ) → leb_length c.bytes ≡ count → Passes 1 c (sleb_by c count)
unfolding leb_length
sleb_by_passes c None is = tt
sleb_by_passes c (Some count) is =
    let there = length_there c.bytes _ count refl is in
    passes_by (fits_i64 (sleb_sum count c.bytes)) _ _ count 1 c there.0 there.1

pub sleb_passes : (c : Ahead) → Passes 1 c (sleb_at c)
unfolding sleb_at
sleb_passes c = sleb_by_passes c (leb_length c.bytes) refl

-- A text is followed by a zero byte.
text_there : (bytes : List ℕ) (found : Option ℕ) (text : List ℕ) → position (λ byte. nat_eq byte 0) bytes ≡ found → option_map (λ (n : ℕ). take n bytes) found ≡ Some text → length text + 1 ≤ length bytes
text_there bytes None text found is = cc
text_there bytes (Some n) text found is =
    let at = position-Some (λ byte. nat_eq byte 0) bytes n 0 found in
    let below : n < length bytes = at.0 in
    let same : take n bytes ≡ text = cc in
    omega (arith, length-take n bytes, ap (λ (t : List ℕ). length t) same)

text_by_passes : (c : Ahead) (found : Option (List ℕ)) → front_text c.bytes ≡ found → Passes 1 c (text_by c found)
unfolding front_text
text_by_passes c None is = tt
text_by_passes c (Some text) is =
    passed_by (length text + 1) 1 c (text_there c.bytes _ text refl is) (omega arith)

pub text_passes : (c : Ahead) → Passes 1 c (text_at c)
unfolding text_at
text_passes c = text_by_passes c _ refl

then_by : {A B E : Type 0} (second : Result (B × Ahead) E) (x : A × Ahead) (least more : ℕ) (c : Ahead) → Passes {A = A} {E = E} least c (Ok x) → Passes more x.1 second → Passes (least + more) c second
then_by (Ok y) x least more c goes later = (omega (arith, goes.0, later.0), omega (arith, goes.1, later.1))
then_by (Err fault) x least more c goes later = tt

-- Two readings, one after the other, pass as many bytes as both together.
pub passes_then : {A B E : Type 0} (first : Result (A × Ahead) E) (next : A × Ahead → Result (B × Ahead) E) (least more : ℕ) (c : Ahead) → Passes least c first → ((x : A × Ahead) → Passes more x.1 (next x)) → Passes (least + more) c (first >>= next)
passes_then (Ok x) next least more c goes later = then_by (next x) x least more c goes (later x)
passes_then (Err fault) next least more c goes later = tt
