-- Lemmas about the records of a block, and about blocks that say the same.
use Rattle.std.proofs.Common.{◌≡◌, ℕ, zero, suc, ◌+◌, ◌==◌, ◌&&◌, leb, Bool, true, false, cond, max, List, [], ◌∷◌, ◌++◌, map, Option, None, Some, refl, sym, ap, ◌∙◌}
use Rattle.std.specs.List.{find, list_any}
use Rattle.std.specs.Option.{option_map, option_map_or}
use Rattle.std.specs.Str.{bytes_eq}
use Rattle.sym_records.specs.declared.line.Extent.{Extent}
use Rattle.sym_records.specs.declared.line.SymLine.{SymLine}
use Rattle.sym_records.specs.declared.line.SymLine.TheVariants as record_line
use Rattle.sym_rules.specs.declared.rules.Target.{Target}
use Rattle.sym_rules.specs.declared.rules.Target.TheVariants as target
use Rattle.sym_rules.specs.declared.rules.RuleText.{RuleText}
use Rattle.sym_meaning.specs.TextNames.{is_within, is_line_at, is_inline_at, inlines_from, level_count, text_path, text_origin, func_name, call_of, path_and_line}
use Rattle.sym_lookup.specs.AnswerTexts.{call_name}
use Rattle.cfi_eval.specs.TextRules.{same_target, changes_until}
use Rattle.sym_judge.specs.Alike.{same_option, same_list, same_line, same_call}
use Rattle.sym_judge.specs.declared.ruling.Half.{Half}
use Rattle.sym_judge.specs.declared.ruling.Half.TheVariants.{Names, Frames}
use Rattle.sym_judge.specs.internal.Blocks.{changes, inside, is_inside, same_extent, same_rule_text, same_path, same_run, same_source, same_ranges, same_site, same_record, same_head}
use Rattle.sym_judge.proofs.SameLemmas.{never, numbers, and_left, and_right, and_both, bytes_tell, options_tell, words_tell}

-- The records of a block, one after another.
pub inside_more : (half : Half) (line : SymLine) (later : List SymLine) → is_inside half line ≡ true → inside half (line ∷ later) ≡ line ∷ inside half later
inside_more Names (record_line.Inline level line file origin ranges) later is = refl
inside_more Names (record_line.Line address size line file) later is = refl
inside_more Names _ later is = never is
inside_more Frames (record_line.Change address rules) later is = refl
inside_more Frames _ later is = never is

pub inside_ends : (half : Half) (line : SymLine) (later : List SymLine) → is_inside half line ≡ false → inside half (line ∷ later) ≡ []
inside_ends Names (record_line.Inline level line file origin ranges) later is = never (sym is)
inside_ends Names (record_line.Line address size line file) later is = never (sym is)
inside_ends Names _ later is = refl
inside_ends Frames (record_line.Change address rules) later is = never (sym is)
inside_ends Frames _ later is = refl

-- Lists are equal if their members are.
pub list_true : {A : Type 0} (same : A → A → Bool) → ((a b : A) → same a b ≡ true → a ≡ b) → (front back : List A) → same_list same front back ≡ true → front ≡ back
list_true same tells [] [] is = refl
list_true same tells [] (b ∷ back) is = never is
list_true same tells (a ∷ front) [] is = never is
list_true same tells (a ∷ front) (b ∷ back) is = ap (λ c. c ∷ front) (tells a b (and_left _ _ is)) ∙ ap (λ cs. b ∷ cs) (list_true same tells front back (and_right _ _ is))

pub extent_true : (a b : Extent) → same_extent a b ≡ true → a ≡ b
extent_true a b is =
    let p : a.address ≡ b.address = numbers a.address b.address (and_left _ _ is) in
    let q : a.size ≡ b.size = numbers a.size b.size (and_right _ _ is) in
    ap (λ n. record { address = n; size = a.size }) p ∙ ap (λ n. record { address = b.address; size = n }) q

target_true : (a b : Target) → same_target a b ≡ true → a ≡ b
target_true target.Cfa target.Cfa is = refl
target_true target.Ra target.Ra is = refl
target_true (target.Reg a) (target.Reg b) is = ap (λ n. target.Reg n) (numbers a b is)
target_true (target.Other a) (target.Other b) is = ap (λ n. target.Other n) (bytes_tell.true_is a b is)
target_true _ _ is = never is

rule_true : (a b : RuleText) → same_rule_text a b ≡ true → a ≡ b
rule_true a b is =
    let p : a.target ≡ b.target = target_true a.target b.target (and_left _ _ is) in
    let q : a.tokens ≡ b.tokens = words_tell.true_is a.tokens b.tokens (and_right _ _ is) in
    ap (λ t. record { target = t; tokens = a.tokens }) p ∙ ap (λ ws. record { target = b.target; tokens = ws }) q

pub rules_true : (a b : List RuleText) → same_list same_rule_text a b ≡ true → a ≡ b
rules_true a b is = list_true same_rule_text rule_true a b is

-- Records that say the same cover the same addresses.
line_tells : (own other : List SymLine) (x : ℕ) (a b : SymLine) → same_record own other a b ≡ true → is_line_at x a ≡ is_line_at x b
line_tells own other x (record_line.Inline level line file origin ranges) (record_line.Inline depth number path name extents) is = refl
line_tells own other x (record_line.Line address size line file) (record_line.Line start many number path) is =
    let p : address ≡ start = numbers address start (and_left _ _ (and_left _ _ is)) in
    let q : size ≡ many = numbers size many (and_right _ _ (and_left _ _ is)) in
    ap (λ n. is_within n size x) p ∙ ap (λ n. is_within start n x) q
line_tells own other x (record_line.Change address rules) (record_line.Change start others) is = refl
line_tells own other x _ _ is = never is

inline_tells : (own other : List SymLine) (level x : ℕ) (a b : SymLine) → same_record own other a b ≡ true → is_inline_at level x a ≡ is_inline_at level x b
inline_tells own other level x (record_line.Inline high line file origin ranges) (record_line.Inline depth number path name extents) is =
    let p : high ≡ depth = numbers high depth (and_left _ _ (and_left _ _ is)) in
    let q : ranges ≡ extents = list_true same_extent extent_true ranges extents (and_right _ _ (and_left _ _ is)) in
    ap (λ n. (n == level) && list_any (λ (r : Extent). is_within r.address r.size x) ranges) p ∙ ap (λ rs. (depth == level) && list_any (λ (r : Extent). is_within r.address r.size x) rs) q
inline_tells own other level x (record_line.Line address size line file) (record_line.Line start many number path) is = refl
inline_tells own other level x (record_line.Change address rules) (record_line.Change start others) is = refl
inline_tells own other level x _ _ is = never is

-- Records that say the same name the same.
line_said : (own other : List SymLine) (a b : SymLine) → same_record own other a b ≡ true → same_line (path_and_line own a) (path_and_line other b) ≡ true
line_said own other (record_line.Inline level line file origin ranges) (record_line.Inline depth number path name extents) is = refl
line_said own other (record_line.Line address size line file) (record_line.Line start many number path) is =
    let source = and_right _ _ is in and_both (same_path own other file path) (line == number) (and_right _ _ source) (and_left _ _ source)
line_said own other (record_line.Change address rules) (record_line.Change start others) is = refl
line_said own other _ _ is = never is

name_said : (a b : Option (List ℕ)) (own other : Option (List ℕ)) (line number : ℕ) → same_option bytes_eq a b ≡ true → same_option bytes_eq own other ≡ true → (line == number) ≡ true
    → same_call (record { name = a; path = own; line = line }) (record { name = b; path = other; line = number }) ≡ true
name_said a b own other line number name path at =
    let same : a ≡ b = (options_tell bytes_eq bytes_tell).true_is a b name in
    let called : bytes_eq (call_name (record { name = a; path = own; line = line })) (call_name (record { name = b; path = other; line = number })) ≡ true
    = ap (λ n. bytes_eq (call_name (record { name = n; path = own; line = line })) (call_name (record { name = b; path = other; line = number }))) same ∙ bytes_tell.self (call_name (record { name = b; path = other; line = number })) in
    and_both _ _ called (and_both _ _ path at)

call_said : (own other : List SymLine) (a b : SymLine) → same_record own other a b ≡ true → same_call (call_of own a) (call_of other b) ≡ true
call_said own other (record_line.Inline level line file origin ranges) (record_line.Inline depth number path name extents) is =
    let site = and_right _ _ is in
    let source = and_left _ _ site in
    name_said (text_origin own origin) (text_origin other name) (text_path own file) (text_path other path) line number (and_right _ _ site) (and_right _ _ source) (and_left _ _ source)
call_said own other (record_line.Line address size line file) (record_line.Line start many number path) is = name_said None None None None 0 0 refl refl refl
call_said own other (record_line.Change address rules) (record_line.Change start others) is = name_said None None None None 0 0 refl refl refl
call_said own other _ _ is = never is

-- Lists of records that say the same.
abbrev pub AreSame : List SymLine → List SymLine → List SymLine → List SymLine → Type 0
AreSame own other front back = same_list (same_record own other) front back ≡ true

levels_step : (own other : List SymLine) (a b : SymLine) (front back : List SymLine) → same_record own other a b ≡ true → level_count front ≡ level_count back → level_count (a ∷ front) ≡ level_count (b ∷ back)
levels_step own other (record_line.Inline high line file origin ranges) (record_line.Inline depth number path name extents) front back is later =
    let p : high ≡ depth = numbers high depth (and_left _ _ (and_left _ _ is)) in
    ap (λ n. max (n + 1) (level_count front)) p ∙ ap (λ n. max (depth + 1) n) later
levels_step own other (record_line.Line address size line file) (record_line.Line start many number path) front back is later = later
levels_step own other (record_line.Change address rules) (record_line.Change start others) front back is later = later
levels_step own other _ _ front back is later = never is

pub levels_same : (own other front back : List SymLine) → AreSame own other front back → level_count front ≡ level_count back
levels_same own other [] [] is = refl
levels_same own other [] (b ∷ back) is = never is
levels_same own other (a ∷ front) [] is = never is
levels_same own other (a ∷ front) (b ∷ back) is = levels_step own other a b front back (and_left _ _ is) (levels_same own other front back (and_right _ _ is))

-- The first record that passes a test.
abbrev Paired : List SymLine → List SymLine → Option SymLine → Option SymLine → Type 0
Paired own other None None = Unit {0}
Paired own other (Some a) (Some b) = same_record own other a b ≡ true
Paired own other _ _ = ⊥

pick : (own other : List SymLine) (a b : SymLine) (later then : Option SymLine) (p q : Bool) → p ≡ q → same_record own other a b ≡ true → Paired own other later then → Paired own other (cond p (Some a) later) (cond q (Some b) then)
pick own other a b later then true true e is more = is
pick own other a b later then false false e is more = more
pick own other a b later then true false e is more = never (sym e)
pick own other a b later then false true e is more = never e

find_both : (own other : List SymLine) (p : SymLine → Bool) → ((a b : SymLine) → same_record own other a b ≡ true → p a ≡ p b) → (front back : List SymLine) → AreSame own other front back → Paired own other (find p front) (find p back)
find_both own other p tells [] [] is = tt
find_both own other p tells [] (b ∷ back) is = never is
find_both own other p tells (a ∷ front) [] is = never is
find_both own other p tells (a ∷ front) (b ∷ back) is =
    pick own other a b (find p front) (find p back) (p a) (p b) (tells a b (and_left _ _ is)) (and_left _ _ is) (find_both own other p tells front back (and_right _ _ is))

line_met : (own other : List SymLine) (a b : Option SymLine) → Paired own other a b → same_option same_line (option_map (path_and_line own) a) (option_map (path_and_line other) b) ≡ true
line_met own other None None is = refl
line_met own other None (Some b) is = absurd is
line_met own other (Some a) None is = absurd is
line_met own other (Some a) (Some b) is = line_said own other a b is

pub lines_same : (own other : List SymLine) (x : ℕ) (front back : List SymLine) → AreSame own other front back → same_option same_line (option_map (path_and_line own) (find (is_line_at x) front)) (option_map (path_and_line other) (find (is_line_at x) back)) ≡ true
lines_same own other x front back is = line_met own other (find (is_line_at x) front) (find (is_line_at x) back) (find_both own other (is_line_at x) (line_tells own other x) front back is)

abbrev AreCalls : List SymLine → List SymLine → List SymLine → List SymLine → Type 0
AreCalls own other front back = same_list same_call (map (call_of own) front) (map (call_of other) back) ≡ true

call_met : (own other : List SymLine) (a b : Option SymLine) (front back : List SymLine) → Paired own other a b → AreCalls own other front back → AreCalls own other (option_map_or (λ s. s ∷ front) a []) (option_map_or (λ s. s ∷ back) b [])
call_met own other None None front back is later = refl
call_met own other None (Some b) front back is later = absurd is
call_met own other (Some a) None front back is later = absurd is
call_met own other (Some a) (Some b) front back is later = and_both _ _ (call_said own other a b is) later

pub chains_same : (own other : List SymLine) (x level levels : ℕ) (front back : List SymLine) → AreSame own other front back → AreCalls own other (inlines_from x level levels front) (inlines_from x level levels back)
chains_same own other x level zero front back is = refl
chains_same own other x level (suc levels) front back is =
    call_met own other (find (is_inline_at level x) front) (find (is_inline_at level x) back) (inlines_from x (level + 1) levels front) (inlines_from x (level + 1) levels back)
    (find_both own other (is_inline_at level x) (inline_tells own other level x) front back is) (chains_same own other x (level + 1) levels front back is)

-- Changes of frame rules.
until_front : (x : ℕ) (lines : List SymLine) → changes_until x lines ≡ changes_until x (changes lines)
unfolding changes_until
until_front x [] = refl
until_front x (record_line.Change address rules ∷ lines) = ap (λ rest. cond (leb address x) rules [] ++ rest) (until_front x lines)
until_front x (_ ∷ lines) = refl

until_step : (own other : List SymLine) (x : ℕ) (a b : SymLine) (front back : List SymLine) → same_record own other a b ≡ true → changes_until x front ≡ changes_until x back → changes_until x (a ∷ front) ≡ changes_until x (b ∷ back)
unfolding changes_until
until_step own other x (record_line.Change address rules) (record_line.Change start others) front back is later =
    let p : address ≡ start = numbers address start (and_left _ _ is) in
    let q : rules ≡ others = rules_true rules others (and_right _ _ is) in
    ap (λ n. cond (leb n x) rules [] ++ changes_until x front) p ∙ ap (λ rs. cond (leb start x) rs [] ++ changes_until x front) q ∙ ap (λ rest. cond (leb start x) others [] ++ rest) later
until_step own other x (record_line.Inline level line file origin ranges) (record_line.Inline depth number path name extents) front back is later = refl
until_step own other x (record_line.Line address size line file) (record_line.Line start many number path) front back is later = refl
until_step own other x _ _ front back is later = never is

until_both : (own other : List SymLine) (x : ℕ) (front back : List SymLine) → AreSame own other front back → changes_until x front ≡ changes_until x back
until_both own other x [] [] is = refl
until_both own other x [] (b ∷ back) is = never is
until_both own other x (a ∷ front) [] is = never is
until_both own other x (a ∷ front) (b ∷ back) is = until_step own other x a b front back (and_left _ _ is) (until_both own other x front back (and_right _ _ is))

pub changes_same : (own other : List SymLine) (x : ℕ) (front back : List SymLine) → AreSame own other (changes front) (changes back) → changes_until x front ≡ changes_until x back
changes_same own other x front back is = until_front x front ∙ until_both own other x (changes front) (changes back) is ∙ sym (until_front x back)

-- The name of a function.
pub head_names : (a b : SymLine) → same_head a b ≡ true → bytes_eq (func_name a) (func_name b) ≡ true
head_names (record_line.Func many address size params name) (record_line.Func more start length others called) is = is
head_names (record_line.Init address size rules) (record_line.Init start length others) is = bytes_tell.self []
head_names _ _ is = never is

-- Two tests of a record, one after the other.
pub line_like : (own other : List SymLine) (other_line : SymLine) (address size line file start many number path : ℕ) (run source : Bool) → other_line ≡ record_line.Line start many number path → run ≡ same_run address size start many → run ≡ true
    → source ≡ same_source own other line file number path → source ≡ same_record own other (record_line.Line address size line file) other_line
line_like own other other_line address size line file start many number path run source p e holds is =
    is ∙ sym (ap (same_record own other (record_line.Line address size line file)) p ∙ ap (λ r. r && same_source own other line file number path) (sym e ∙ holds))

pub inline_like : (own other : List SymLine) (other_line : SymLine) (level line file origin depth number path name : ℕ) (ranges extents second : List Extent) (same site : Bool) → other_line ≡ record_line.Inline depth number path name extents
    → second ≡ extents → same ≡ same_ranges level ranges depth second → same ≡ true → site ≡ same_site own other line file origin number path name → site ≡ same_record own other (record_line.Inline level line file origin ranges) other_line
inline_like own other other_line level line file origin depth number path name ranges extents second same site p g e holds is =
    let told : same ≡ same_ranges level ranges depth extents = e ∙ ap (same_ranges level ranges depth) g in
    is ∙ sym (ap (same_record own other (record_line.Inline level line file origin ranges)) p ∙ ap (λ r. r && same_site own other line file origin number path name) (sym told ∙ holds))
