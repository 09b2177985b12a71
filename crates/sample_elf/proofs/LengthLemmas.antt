-- How long the parts of a made file are, for the lengths in the file.
use Rattle.std.proofs.Common.{◌≡◌, ℕ, ◌+◌, ◌*◌, ◌%◌, ◌==◌, zero, suc, ◌<◌, ◌≤◌, ◌^◌, List, [], ◌∷◌, ◌++◌, length, codes, decimal, refl, sym, subst, arith, length-append, replicate, ◌-◌, Bool, true, false, if◌then◌else◌}
use Rattle.std.specs.List.{concat}
use Rattle.std.proofs.lemmas.Fmt.{length-decimal-le}
use Rattle.std.proofs.lemmas.List.{length-replicate}
use Rattle.sample_elf.specs.Made.{four, root_texts, root_numbers, by_version, each_below, line_program, line_fields, line_header_5, line_header_4, line_header, line_body, line_table, line_tables, unit_root, unit_front, code_at, function, inlined_copy, unit_functions, unit_body, unit, numbered_unit, units, usual, bad, frame_entry, unit_frames, common_entry, frames, abbreviations, section_names, abbreviations_at, headers_at, file_header, program_header, build_id, padding, front, section_header, sections, section_headers, made}
use Rattle.sample_elf.proofs.PieceLemmas.{more_below}

-- A list put before another.
joined : (n m : ℕ) (xs rest : List ℕ) → length xs ≤ n → length rest ≤ m → length (xs ++ rest) ≤ n + m
joined n m xs rest few more = omega (arith, length-append xs rest)

-- The numbers of units have at most five digits.
pub digits_few : (k : ℕ) → k < 20000 → length (decimal k) ≤ 5
digits_few k few = length-decimal-le 5 k (omega arith) (omega arith) (omega arith)

either : (b : Bool) (n : ℕ) (xs ys : List ℕ) → length xs ≤ n → length ys ≤ n → length (if b then xs else ys) ≤ n
either true n xs ys one other = one
either false n xs ys one other = other

header_5_few : (k : ℕ) → length (decimal k) ≤ 5 → length (line_header_5 k) ≤ 60
unfolding line_header_5 line_fields
header_5_few k few = grind (arith, length-append)

header_4_few : (k : ℕ) → length (decimal k) ≤ 5 → length (line_header_4 k) ≤ 60
unfolding line_header_4 line_fields
header_4_few k few = grind (arith, length-append)

pub header_length : (k : ℕ) → k < 20000 → length (line_header k) ≤ 60
header_length k few = either (k % 2 == 0) 60 (line_header_5 k) (line_header_4 k) (header_5_few k (digits_few k few)) (header_4_few k (digits_few k few))

program_few : (code : ℕ) → length (line_program code) ≤ 40
unfolding line_program
program_few code = grind (arith, length-append)

pub body_length : (k : ℕ) → k < 20000 → length (line_body k) ≤ 112
unfolding line_body
body_length k few =
    joined 4 108 (by_version k (5 ∷ 0 ∷ 8 ∷ 0 ∷ []) (4 ∷ 0 ∷ [])) _ (either (k % 2 == 0) 4 (5 ∷ 0 ∷ 8 ∷ 0 ∷ []) (4 ∷ 0 ∷ []) (omega arith) (omega arith))
    (joined 4 104 (four (length (line_header k))) _ (omega arith) (joined 60 44 (line_header k) _ (header_length k few) (joined 44 0 (line_program (code_at k)) [] (let h : length (line_program (code_at k)) ≤ 40 = program_few (code_at k) in omega arith) (omega arith))))

pub table_length : (k : ℕ) → k < 20000 → length (line_table k) ≤ 116
unfolding line_table
table_length k few = joined 4 112 (four (length (line_body k))) _ (omega arith) (joined 112 0 (line_body k) [] (body_length k few) (omega arith))

-- The units.
root_length : (digits : List ℕ) (code table : ℕ) → length digits ≤ 5 → length (unit_root digits code table) ≤ 40
unfolding unit_root root_texts root_numbers
root_length digits code table few = grind (arith, length-append)

pub front_length : (k code table : ℕ) → k < 20000 → length (unit_front k code table) ≤ 48
unfolding unit_front
front_length k code table few =
    joined 8 40 (by_version k (5 ∷ 0 ∷ 1 ∷ 8 ∷ 0 ∷ 0 ∷ 0 ∷ 0 ∷ []) (4 ∷ 0 ∷ 0 ∷ 0 ∷ 0 ∷ 0 ∷ 8 ∷ [])) _ (either (k % 2 == 0) 8 (5 ∷ 0 ∷ 1 ∷ 8 ∷ 0 ∷ 0 ∷ 0 ∷ 0 ∷ []) (4 ∷ 0 ∷ 0 ∷ 0 ∷ 0 ∷ 0 ∷ 8 ∷ []) (omega arith) (omega arith))
    (joined 40 0 (unit_root (decimal k) code table) [] (root_length (decimal k) code table (digits_few k few)) (omega arith))

function_length : (abbreviation k address letter : ℕ) → length (decimal k) ≤ 5 → length (function abbreviation (letter ∷ []) k address) ≤ 20
unfolding function
function_length abbreviation k address letter few = grind (arith, length-append)

copy_length : (code origin : ℕ) → length (inlined_copy code origin) ≤ 24
unfolding inlined_copy
copy_length code origin = grind (arith, length-append)

functions_length : (k code origin : ℕ) → length (decimal k) ≤ 5 → length (unit_functions k code origin) ≤ 72
unfolding unit_functions
functions_length k code origin few =
    joined 20 52 (function 3 (codes "g") k (code + 32)) _ (function_length 3 k (code + 32) 103 few)
    (joined 20 32 (function 2 (codes "f") k code) _ (function_length 2 k code 102 few)
    (joined 32 0 (inlined_copy code origin) [] (let c : length (inlined_copy code origin) ≤ 24 = copy_length code origin in omega arith) (omega arith)))

pub unit_body_length : (k code table : ℕ) → k < 20000 → length (unit_body k code table) ≤ 120
unfolding unit_body
unit_body_length k code table few = joined 48 72 (unit_front k code table) _ (front_length k code table few) (joined 72 0 (unit_functions k code (4 + length (unit_front k code table))) [] (functions_length k code (4 + length (unit_front k code table)) (digits_few k few)) (omega arith))

pub unit_length : (k code table : ℕ) → k < 20000 → length (unit k code table) ≤ 124
unfolding unit
unit_length k code table few = joined 4 120 (four (length (unit_body k code table))) _ (omega arith) (joined 120 0 (unit_body k code table) [] (unit_body_length k code table few) (omega arith))

-- All parts with numbers below a given one.
pub below_length : (piece : ℕ → List ℕ) (most limit n : ℕ) → ((k : ℕ) → k < limit → length (piece k) ≤ most) → n ≤ limit → length (each_below piece n) ≤ most * n
below_length piece most limit zero each few = omega arith
below_length piece most limit (suc n) each few =
    let one : each_below piece (n + 1) ≡ each_below piece n ++ piece n = more_below piece n in
    let before : length (each_below piece n) ≤ most * n = below_length piece most limit n each (omega arith) in
    let last : length (piece n) ≤ most = each n (omega arith) in
    let sum : length (each_below piece n ++ piece n) ≡ length (each_below piece n) + length (piece n) = length-append (each_below piece n) (piece n) in
    let next : n + 1 ≡ suc n = omega arith in
    subst (λ m. length (each_below piece m) ≤ most * m) next (subst (λ all. length all ≤ most * (n + 1)) (sym one) (omega arith))

pub tables_length : (n : ℕ) → n ≤ 20000 → length (line_tables n) ≤ 116 * n
unfolding line_tables
tables_length n few = below_length line_table 116 20000 n table_length few

pub units_length : (n : ℕ) → n ≤ 20000 → length (units n) ≤ 124 * n
unfolding units
units_length n few = below_length numbered_unit 124 20000 n (λ k. unit_length k (code_at k) (length (line_tables k))) few

-- The frame entries.
entry_length : (n j : ℕ) (instructions : List ℕ) → length instructions ≡ 8 → length (frame_entry n j instructions) ≡ 24
unfolding frame_entry
entry_length n j instructions eight_long = grind (arith, length-append)

second_length : (b : Bool) → length (if b then bad else usual) ≡ 8
second_length true = refl
second_length false = refl

unit_frames_length : (n k : ℕ) → k < 20000 → length (unit_frames n k) ≤ 48
unfolding unit_frames
unit_frames_length n k few =
    let one : length (frame_entry n (2 * k) usual) ≡ 24 = entry_length n (2 * k) usual refl in
    let other : length (frame_entry n (2 * k + 1) (if k % 10 == 9 then bad else usual)) ≡ 24 = entry_length n (2 * k + 1) (if k % 10 == 9 then bad else usual) (second_length (k % 10 == 9)) in
    joined 24 24 (frame_entry n (2 * k) usual) _ (omega arith) (joined 24 0 (frame_entry n (2 * k + 1) (if k % 10 == 9 then bad else usual)) [] (omega arith) (omega arith))

pub frames_length : (n : ℕ) → n ≤ 20000 → length (frames n) ≤ 28 + 48 * n
unfolding frames common_entry
frames_length n few =
    let each : length (each_below (unit_frames n) n) ≤ 48 * n = below_length (unit_frames n) 48 20000 n (unit_frames_length n) few in
    let all : length (each_below (unit_frames n) n ++ (0 ∷ 0 ∷ 0 ∷ 0 ∷ [])) ≡ length (each_below (unit_frames n) n) + 4 = length-append (each_below (unit_frames n) n) (0 ∷ 0 ∷ 0 ∷ 0 ∷ []) in
    omega arith

pub abbreviations_length : length abbreviations ≡ 53
unfolding abbreviations
abbreviations_length = refl

pub names_length : length section_names ≡ 84
unfolding section_names
names_length = refl

-- The whole file.
padding_length : length padding ≡ 0x1000 - 156
unfolding padding
padding_length = length-replicate {A = ℕ} (0x1000 - 156) 0

file_header_length : (headers : ℕ) → length (file_header headers) ≡ 64
unfolding file_header
file_header_length headers = refl

program_header_length : (size : ℕ) → length (program_header size) ≡ 56
unfolding program_header
program_header_length size = refl

build_id_length : (n : ℕ) → length (build_id n) ≡ 36
unfolding build_id
build_id_length n = refl

front_few : (n : ℕ) → length (front n) ≤ 4096
unfolding front
front_few n =
    joined 64 4032 (file_header (headers_at n)) _ (let h : length (file_header (headers_at n)) ≡ 64 = file_header_length (headers_at n) in omega arith)
    (joined 56 3976 (program_header (abbreviations_at n)) _ (let h : length (program_header (abbreviations_at n)) ≡ 56 = program_header_length (abbreviations_at n) in omega arith)
    (joined 36 3940 (build_id n) _ (let h : length (build_id n) ≡ 36 = build_id_length n in omega arith)
    (joined 3940 0 padding [] (let h : length padding ≡ 0x1000 - 156 = padding_length in omega arith) (omega arith))))

headers_few : (n : ℕ) → length (section_headers n) ≤ 512
unfolding section_headers sections section_header
headers_few n = omega arith

pub made_length : (n : ℕ) → n ≤ 20000 → length (made n) ≤ 2 ^ 29
unfolding made
made_length n few =
    let f : length (frames n) ≤ 28 + 48 * n = frames_length n few in
    let a : length abbreviations ≡ 53 = abbreviations_length in
    let u : length (units n) ≤ 124 * n = units_length n few in
    let l : length (line_tables n) ≤ 116 * n = tables_length n few in
    let s : length section_names ≡ 84 = names_length in
    let c : length (replicate {A = ℕ} (64 * n) 0) ≡ 64 * n = length-replicate {A = ℕ} (64 * n) 0 in
    let all : length (concat (front n ∷ replicate {A = ℕ} (64 * n) 0 ∷ frames n ∷ abbreviations ∷ units n ∷ line_tables n ∷ section_names ∷ section_headers n ∷ [])) ≤ 4096 + (64 * n + (28 + 48 * n + (53 + (124 * n + (116 * n + (84 + (512 + 0)))))))
    = joined 4096 _ (front n) _ (front_few n)
    (joined (64 * n) _ (replicate {A = ℕ} (64 * n) 0) _ (omega arith)
    (joined (28 + 48 * n) _ (frames n) _ f
    (joined 53 _ abbreviations _ (omega arith)
    (joined (124 * n) _ (units n) _ u
    (joined (116 * n) _ (line_tables n) _ l
    (joined 84 _ section_names _ (omega arith)
    (joined 512 0 (section_headers n) [] (headers_few n) (omega arith)))))))) in
    omega arith

pub made_short : (file : List ℕ) (n : ℕ) → file ≡ made n → n ≤ 20000 → length file ≤ 2 ^ 29
made_short file n is few = subst (λ f. length f ≤ 2 ^ 29) (sym is) (made_length n few)
