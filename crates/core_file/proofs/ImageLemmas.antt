-- The headers of a file in memory, and the greatest end of its segments.
use Rattle.std.proofs.Common.{◌≡◌, ℕ, ◌+◌, ◌*◌, ◌≤◌, ◌^◌, Bool, true, false, List, [], ◌∷◌, length, refl, sym, ◌∙◌, ap, arith, if◌then◌else◌}
use Rattle.std.specs.Prelude.{◌==◌, map, filter, fold, max}
use Rattle.std.proofs.lemmas.Bool.{eq-eqb}
use Rattle.std.proofs.lemmas.Bool.Decides.{nat_tests}
use Rattle.std.proofs.lemmas.List.{nil_from_length}
use Rattle.elf_sections.specs.FileHeader.{header_of}
use Rattle.core_file.specs.declared.segments.Segment.{Segment}
use Rattle.core_file.specs.Segments.{segments_from}
use Rattle.core_file.specs.Memory.{Memory, front_at}
use Rattle.core_file.specs.LoadedImages.{is_load, is_file_header, table_at, headers_by, headers_at, top}
use Rattle.core_file.proofs.FrontLemmas.{front_past, front_none}
use Rattle.core_file.proofs.BoolLemmas.{and_false}

-- There is no file header.
pub headers_none : (memory : Memory) (start : ℕ) → is_file_header (front_at memory start 64) ≡ false → [] ≡ headers_at memory start
unfolding headers_at headers_by
headers_none memory start none = rw none refl

-- The table of program headers is not wholly in memory.
pub headers_cut : (memory : Memory) (start at size count : ℕ) → count ≡ (header_of (front_at memory start 64)).program_count → at ≡ start + (header_of (front_at memory start 64)).program_table → size ≡ 56 * count → (length (front_at memory at size) == size) ≡ false → [] ≡ headers_at memory start
unfolding headers_at headers_by table_at
headers_cut memory start at size count counts is sizes cut =
    let c : (length (front_at memory (start + (header_of (front_at memory start 64)).program_table) (56 * (header_of (front_at memory start 64)).program_count)) == 56 * (header_of (front_at memory start 64)).program_count) ≡ false =
    rw (← counts, ← is, ← sizes) cut in
    rw (c, and_false (is_file_header (front_at memory start 64))) refl

-- The table of program headers is wholly in memory.
pub headers_whole : (memory : Memory) (start at size count : ℕ) → is_file_header (front_at memory start 64) ≡ true → count ≡ (header_of (front_at memory start 64)).program_count → at ≡ start + (header_of (front_at memory start 64)).program_table → size ≡ 56 * count → length (front_at memory at size) ≡ size → segments_from (front_at memory at size) 0 count ≡ headers_at memory start
unfolding headers_at headers_by table_at
headers_whole memory start at size count has counts is sizes whole =
    let c : (length (front_at memory (start + (header_of (front_at memory start 64)).program_table) (56 * (header_of (front_at memory start 64)).program_count)) == 56 * (header_of (front_at memory start 64)).program_count) ≡ true =
    rw (← counts, ← is, ← sizes) (eq-eqb (length (front_at memory at size)) size whole) in
    rw (has, c, ← counts, ← is, ← sizes) refl

no_segments : (bytes : List ℕ) (count : ℕ) (b : Bool) → length bytes ≡ 0 → (length bytes == 56 * count) ≡ b → (if b then segments_from bytes 0 count else []) ≡ []
unfolding segments_from
no_segments bytes count false none is = refl
no_segments bytes count true none is =
    let z : count ≡ 0 = grind (arith, nat_tests) in rw z refl

pub past_empty : (memory : Memory) (a n : ℕ) → 2 ^ 64 ≤ a → length (front_at memory a n) ≡ 0
past_empty memory a n past =
    let z : a + 0 ≡ a = omega arith in
    ap length (front_past memory 0 n a (front_none memory a) (omega arith) (omega arith)) ∙ front_none memory a

-- The table of program headers begins at or above address 2^64.
pub headers_past : (memory : Memory) (start : ℕ) → is_file_header (front_at memory start 64) ≡ true → 2 ^ 64 ≤ start + (header_of (front_at memory start 64)).program_table → [] ≡ headers_at memory start
unfolding headers_at headers_by table_at
headers_past memory start has past =
    let head = front_at memory start 64 in
    let at = start + (header_of head).program_table in
    let n = 56 * (header_of head).program_count in
    let none : length (front_at memory at n) ≡ 0 = past_empty memory at n past in
    rw has (sym (no_segments (front_at memory at n) (header_of head).program_count (length (front_at memory at n) == n) none refl))

pub top_begin : (headers : List Segment) → fold max 0 (map (λ s. s.address + s.memory_size) (filter is_load headers)) ≡ top headers
unfolding top
top_begin headers = refl

pub top_load : (s : Segment) (later : List Segment) (t : ℕ) → s.kind ≡ 1 → fold max (max t (s.address + s.memory_size)) (map (λ s. s.address + s.memory_size) (filter is_load later)) ≡ fold max t (map (λ s. s.address + s.memory_size) (filter is_load (s ∷ later)))
top_load s later t is = rw (eq-eqb s.kind 1 is) refl

pub top_other : (s : Segment) (later : List Segment) (t : ℕ) → (s.kind == 1) ≡ false → fold max t (map (λ s. s.address + s.memory_size) (filter is_load later)) ≡ fold max t (map (λ s. s.address + s.memory_size) (filter is_load (s ∷ later)))
top_other s later t none = rw none refl

pub top_end : (rest : List Segment) (t : ℕ) → length rest ≡ 0 → fold max t (map (λ s. s.address + s.memory_size) (filter is_load rest)) ≡ t
top_end rest t none = ap (λ l. fold max t (map (λ s. s.address + s.memory_size) (filter is_load l))) (nil_from_length rest none)
