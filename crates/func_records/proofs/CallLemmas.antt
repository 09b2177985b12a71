-- The INLINE records of a piece that cover an address, and the calls that they name.
use Rattle.std.proofs.Common.{◌≡◌, ℕ, zero, suc, ◌+◌, ◌-◌, ◌<◌, ◌≤◌, Bool, true, false, ◌&&◌, ◌||◌, ◌==◌, nat_le, nat_lt, cond, max, map, length, List, [], ◌∷◌, ◌++◌, Option, None, Some, arith, refl, sym, ap, ◌∙◌}
use Rattle.std.proofs.lemmas.Bool.Decides.{nat_tests}
use Rattle.std.proofs.lemmas.Slice.Eq.{bytes_eq-Decides}
use Rattle.std.specs.List.{find, slice_get, list_any}
use Rattle.std.specs.Option.{option_map, option_map_or}
use Rattle.std.specs.Str.{bytes_eq}
use Rattle.sym_edges.specs.Addresses.{Range}
use Rattle.range_set.specs.Members.{holds, holds_any}
use Rattle.sym_records.specs.declared.line.Extent.{Extent}
use Rattle.sym_records.specs.declared.line.SymLine.{SymLine}
use Rattle.sym_meaning.specs.TextNames.{is_within, is_line_at, is_inline_at, text_path, text_origin, Call, call_of, level_count, inlines_from}
use Rattle.debug_units.specs.declared.unit_read.UnitRead.{UnitRead}
use Rattle.debug_units.specs.UnitEntries.{Placed}
use Rattle.die_names.specs.Names.{entry_name}
use Rattle.debug_units.specs.Owners.{Covering, entry_chain}
use Rattle.func_flatten.specs.declared.line_run.LineRun.{LineRun}
use Rattle.func_flatten.specs.Publics.{is_inside}
use Rattle.inline_chain.specs.InlineRuns.{InlineParts, AreInlineRuns}
use Rattle.func_records.specs.FuncRecords.{Part, number_in, call_path, call_line, extent, inline_record, line_record}
use Rattle.debug_units.specs.CallPaths.{no_path, path_of_call}
use Rattle.func_records.specs.TextNames.{call_in}
use Rattle.func_records.proofs.ChainLemmas.{IsEntry, chain_entry, is_copy_at, Agree, found_any, copies_agree, AllRanges, AllOfRuns, Good, copies_good}

-- An INLINE record covers an address of the text exactly if its copy has the address.
range_within : (base low high x : ℕ) (range : Range) → base ≤ low → Good low high range → is_within (range.start - base) (range.end - range.start) x ≡ holds range (x + base)
range_within base low high x range above good = within base range.start range.end x (omega (arith, good.0)) good.1
  where
    within : (b s e y : ℕ) → b ≤ s → s < e → is_within (s - b) (e - s) y ≡ (nat_le s (y + b) && nat_lt (y + b) e)
    within b s e y high some = grind (arith, nat_tests)

ranges_within : (base low high x : ℕ) (ranges : List Range) → base ≤ low → AllRanges (Good low high) ranges → list_any (λ (r : Extent). is_within r.address r.size x) (map (extent base) ranges) ≡ holds_any ranges (x + base)
ranges_within base low high x [] above good = refl
ranges_within base low high x (range ∷ ranges) above good =
    ap (λ b. b || list_any (λ (r : Extent). is_within r.address r.size x) (map (extent base) ranges)) (range_within base low high x range above good.0)
    ∙ ap (λ b. holds range (x + base) || b) (ranges_within base low high x ranges above good.1)

-- Line records are no INLINE records, and INLINE records are no line records.
lines_no_inline : (base : ℕ) (paths : List (List ℕ)) (units : List UnitRead) (unit level x : ℕ) (lines : List LineRun) → find (is_inline_at level x) (map (line_record base paths units unit) lines) ≡ None
lines_no_inline base paths units unit level x [] = refl
lines_no_inline base paths units unit level x (r ∷ lines) = lines_no_inline base paths units unit level x lines

pub line_past : (base : ℕ) (paths names : List (List ℕ)) (units : List UnitRead) (unit x : ℕ) (copies : List InlineParts) (rest : List SymLine) → find (is_line_at x) (map (inline_record base paths names units unit) copies ++ rest) ≡ find (is_line_at x) rest
line_past base paths names units unit x [] rest = refl
line_past base paths names units unit x (r ∷ copies) rest = line_past base paths names units unit x copies rest

-- The records under a FUNC: those of its copies, and then those of its lines.
abbrev pub below : ℕ → List (List ℕ) → List (List ℕ) → List UnitRead → Part → List SymLine
below base paths names units p = map (inline_record base paths names units p.piece.unit) p.copies ++ map (line_record base paths units p.piece.unit) p.lines

-- The first INLINE record of a level that covers an address is that of the first copy that has it.
find_copy : (base : ℕ) (paths names : List (List ℕ)) (units : List UnitRead) (unit low high level x : ℕ) (copies : List InlineParts) (rest : List SymLine) → base ≤ low → AllOfRuns (Good low high) copies → find (is_inline_at level x) rest ≡ None → find (is_inline_at level x) (map (inline_record base paths names units unit) copies ++ rest) ≡ option_map (inline_record base paths names units unit) (find (is_copy_at level (x + base)) copies)
find_copy base paths names units unit low high level x [] rest above good none = none
find_copy base paths names units unit low high level x (r ∷ copies) rest above good none =
    ap (λ b. cond ((r.level == level) && b) (Some (inline_record base paths names units unit r)) (find (is_inline_at level x) (map (inline_record base paths names units unit) copies ++ rest))) (ranges_within base low high x r.spans above good.0)
    ∙ go (is_copy_at level (x + base) r) (find_copy base paths names units unit low high level x copies rest above good.1 none)
  where
    go : (b : Bool) → find (is_inline_at level x) (map (inline_record base paths names units unit) copies ++ rest) ≡ option_map (inline_record base paths names units unit) (find (is_copy_at level (x + base)) copies) → cond b (Some (inline_record base paths names units unit r)) (find (is_inline_at level x) (map (inline_record base paths names units unit) copies ++ rest)) ≡ option_map (inline_record base paths names units unit) (cond b (Some r) (find (is_copy_at level (x + base)) copies))
    go true is = refl
    go false is = is

-- The level of a copy is one of the levels of the records.
level_counted : (base : ℕ) (paths names : List (List ℕ)) (units : List UnitRead) (unit level a : ℕ) (copies : List InlineParts) (rest : List SymLine) (r : InlineParts) → find (is_copy_at level a) copies ≡ Some r → level < level_count (map (inline_record base paths names units unit) copies ++ rest)
level_counted base paths names units unit level a [] rest r is = absurd (cc)
level_counted base paths names units unit level a (s ∷ copies) rest r is = go (s.level == level) refl (holds_any s.spans a) is (λ found. level_counted base paths names units unit level a copies rest r found)
  where
    later : level < level_count (map (inline_record base paths names units unit) copies ++ rest) → level < max (s.level + 1) (level_count (map (inline_record base paths names units unit) copies ++ rest))
    later below = omega (arith, below)

    go : (b : Bool) → (s.level == level) ≡ b → (h : Bool) → cond (b && h) (Some s) (find (is_copy_at level a) copies) ≡ Some r → (find (is_copy_at level a) copies ≡ Some r → level < level_count (map (inline_record base paths names units unit) copies ++ rest)) → level < max (s.level + 1) (level_count (map (inline_record base paths names units unit) copies ++ rest))
    go true same true found more = let own : s.level ≡ level = grind (arith, nat_tests) in omega (arith, own)
    go true same false found more = later (more found)
    go false same h found more = later (more found)

chain_counted : (n : ℕ) (chain : List Covering) → ((k : ℕ) (c : Covering) → slice_get chain k ≡ Some c → k < n) → length chain ≤ n
chain_counted n [] each = omega arith
chain_counted zero (c ∷ chain) each = absurd (omega (arith, each 0 c refl))
chain_counted (suc n) (c ∷ chain) each =
    let rest : length chain ≤ n = chain_counted n chain (λ k d is. let next : suc k < suc n = each (suc k) d is in omega (arith, next)) in
    omega (arith, rest)

-- The calls, level by level.
calls_chain : (records : List SymLine) (units : List UnitRead) (x level fuel : ℕ) (under : List SymLine) (chain : List Covering) → ((k : ℕ) → option_map (call_of records) (find (is_inline_at (level + k) x) under) ≡ option_map (call_in units) (slice_get chain k)) → length chain ≤ fuel → map (call_of records) (inlines_from x level fuel under) ≡ map (call_in units) chain
calls_chain records units x level zero under [] each few = refl
calls_chain records units x level zero under (c ∷ chain) each few = absurd (omega (arith, few))
calls_chain records units x level (suc fuel) under [] each few = go (find (is_inline_at level x) under) (ap (λ n. option_map (call_of records) (find (is_inline_at n x) under)) (omega arith) ∙ each 0)
  where
    go : (o : Option SymLine) → option_map (call_of records) o ≡ None → map (call_of records) (option_map_or (λ s. s ∷ inlines_from x (level + 1) fuel under) o []) ≡ []
    go None is = refl
    go (Some s) is = absurd (cc)
calls_chain records units x level (suc fuel) under (c ∷ chain) each few =
    go (find (is_inline_at level x) under) (ap (λ n. option_map (call_of records) (find (is_inline_at n x) under)) (omega arith) ∙ each 0)
    (calls_chain records units x (level + 1) fuel under chain (λ k. ap (λ n. option_map (call_of records) (find (is_inline_at n x) under)) (omega arith) ∙ each (suc k)) (omega (arith, few)))
  where
    go : (o : Option SymLine) → option_map (call_of records) o ≡ Some (call_in units c) → map (call_of records) (inlines_from x (level + 1) fuel under) ≡ map (call_in units) chain → map (call_of records) (option_map_or (λ s. s ∷ inlines_from x (level + 1) fuel under) o []) ≡ call_in units c ∷ map (call_in units) chain
    go None is rest = absurd (cc)
    go (Some s) is rest =
        let first : call_of records s ≡ call_in units c = cc in
        ap (λ e. e ∷ map (call_of records) (inlines_from x (level + 1) fuel under)) first ∙ ap (λ es. call_in units c ∷ es) rest

-- The record of a copy names the call of its entry.
call_made : (units : List UnitRead) (unit : ℕ) (c : Covering) → IsEntry units unit c → call_in units c ≡ record { name = Some (entry_name units unit c.entry); path = Some (call_path units unit c.entry); line = call_line units unit c.entry }
call_made units unit c entry =
    ap (λ u. record { name = Some (entry_name units u c.entry); path = Some (path_of_call units u c.die); line = c.die.call_line }) entry.unit_is
    ∙ ap (λ o. record { name = Some (entry_name units unit c.entry); path = Some (option_map_or (λ (p : Placed). path_of_call units unit p.die) o no_path); line = option_map_or (λ (p : Placed). p.die.call_line) o 0 }) (sym entry.entry_is)

same_text : (text : List ℕ) → bytes_eq text text ≡ true
same_text text = (bytes_eq-Decides text text).1 refl

abbrev pub HasPaths : List SymLine → List (List ℕ) → List UnitRead → ℕ → List InlineParts → Type 0
HasPaths records paths units unit copies = (path : List ℕ) → list_any (λ (r : InlineParts). bytes_eq path (call_path units unit r.entry)) copies ≡ true → text_path records (number_in paths path) ≡ Some path

abbrev pub HasOrigins : List SymLine → List (List ℕ) → List UnitRead → ℕ → List InlineParts → Type 0
HasOrigins records names units unit copies = (name : List ℕ) → list_any (λ (r : InlineParts). bytes_eq name (entry_name units unit r.entry)) copies ≡ true → text_origin records (number_in names name) ≡ Some name

call_said : (base : ℕ) (paths names : List (List ℕ)) (units : List UnitRead) (records : List SymLine) (unit level a : ℕ) (copies : List InlineParts) (o : Option Covering) → HasPaths records paths units unit copies → HasOrigins records names units unit copies → ((c : Covering) → o ≡ Some c → IsEntry units unit c) → Agree level o (find (is_copy_at level a) copies) → option_map (call_of records) (option_map (inline_record base paths names units unit) (find (is_copy_at level a) copies)) ≡ option_map (call_in units) o
call_said base paths names units records unit level a copies o pathed named entry agree = go o (find (is_copy_at level a) copies) refl entry agree
  where
    go : (p : Option Covering) (f : Option InlineParts) → find (is_copy_at level a) copies ≡ f → ((c : Covering) → p ≡ Some c → IsEntry units unit c) → Agree level p f → option_map (call_of records) (option_map (inline_record base paths names units unit) f) ≡ option_map (call_in units) p
    go None None is each same = refl
    go None (Some r) is each same = absurd same
    go (Some c) None is each same = absurd same
    go (Some c) (Some r) is each same =
        let path : text_path records (number_in paths (call_path units unit r.entry)) ≡ Some (call_path units unit r.entry)
        = pathed (call_path units unit r.entry) (found_any level a copies r (λ (s : InlineParts). bytes_eq (call_path units unit r.entry) (call_path units unit s.entry)) is (same_text (call_path units unit r.entry))) in
        let name : text_origin records (number_in names (entry_name units unit r.entry)) ≡ Some (entry_name units unit r.entry)
        = named (entry_name units unit r.entry) (found_any level a copies r (λ (s : InlineParts). bytes_eq (entry_name units unit r.entry) (entry_name units unit s.entry)) is (same_text (entry_name units unit r.entry))) in
        ap (λ (n : Option (List ℕ)). Some (let call : Call = record { name = n; path = text_path records (number_in paths (call_path units unit r.entry)); line = call_line units unit r.entry } in call)) name
        ∙ ap (λ (n : Option (List ℕ)). Some (let call : Call = record { name = Some (entry_name units unit r.entry); path = n; line = call_line units unit r.entry } in call)) path
        ∙ ap (λ e. Some (let call : Call = record { name = Some (entry_name units unit e); path = Some (call_path units unit e); line = call_line units unit e } in call)) same.0
        ∙ ap (λ (call : Call). Some call) (sym (call_made units unit c (each c refl)))

-- The INLINE records of a piece that cover an address in it name the calls of its chain.
pub part_calls : (base : ℕ) (paths names : List (List ℕ)) (units : List UnitRead) (records : List SymLine) (x : ℕ) (p : Part) → base ≤ p.piece.start → AreInlineRuns units p.piece p.copies → is_inside (x + base) p.piece ≡ true → HasPaths records paths units p.piece.unit p.copies → HasOrigins records names units p.piece.unit p.copies
    → map (call_of records) (inlines_from x 0 (level_count (below base paths names units p)) (below base paths names units p)) ≡ map (call_in units) (entry_chain units p.piece.unit p.piece.entry (x + base))
part_calls base paths names units records x p above are inside pathed named =
    let good : AllOfRuns (Good p.piece.start p.piece.end) p.copies = copies_good units p.piece p.copies are in
    let lines : List SymLine = map (line_record base paths units p.piece.unit) p.lines in
    let found : (k : ℕ) → find (is_inline_at k x) (below base paths names units p) ≡ option_map (inline_record base paths names units p.piece.unit) (find (is_copy_at k (x + base)) p.copies)
    = λ k. find_copy base paths names units p.piece.unit p.piece.start p.piece.end k x p.copies lines above good (lines_no_inline base paths units p.piece.unit k x p.lines) in
    let agree : (k : ℕ) → Agree k (slice_get (entry_chain units p.piece.unit p.piece.entry (x + base)) k) (find (is_copy_at k (x + base)) p.copies)
    = λ k. copies_agree units p.piece p.copies k (x + base) are inside in
    calls_chain records units x 0 (level_count (below base paths names units p)) (below base paths names units p) (entry_chain units p.piece.unit p.piece.entry (x + base))
    (λ k. ap (λ n. option_map (call_of records) (find (is_inline_at n x) (below base paths names units p))) (omega arith) ∙ ap (option_map (call_of records)) (found k)
    ∙ call_said base paths names units records p.piece.unit k (x + base) p.copies (slice_get (entry_chain units p.piece.unit p.piece.entry (x + base)) k) pathed named (λ c is. chain_entry units p.piece.unit p.piece.entry (x + base) k c is) (agree k))
    (chain_counted (level_count (below base paths names units p)) (entry_chain units p.piece.unit p.piece.entry (x + base))
    (λ k c is. counted k c is (find (is_copy_at k (x + base)) p.copies) refl (agree k)))
  where
    counted : (k : ℕ) (c : Covering) → slice_get (entry_chain units p.piece.unit p.piece.entry (x + base)) k ≡ Some c → (f : Option InlineParts) → find (is_copy_at k (x + base)) p.copies ≡ f → Agree k (slice_get (entry_chain units p.piece.unit p.piece.entry (x + base)) k) f → k < level_count (below base paths names units p)
    counted k c is (Some r) found same = level_counted base paths names units p.piece.unit k (x + base) p.copies (map (line_record base paths units p.piece.unit) p.lines) r found
    counted k c is None found same = absurd (rw is at same)
