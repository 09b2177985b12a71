-- What the code stores of the records before a record.
use Rattle.std.specs.Prelude.{◌≡◌, ℕ, not, Bool, false, List, ◌∷◌, ◌++◌, take, reverse, Option, None, Some}
use Rattle.std.specs.List.{list_any, list_all, flat_map}
use Rattle.std.specs.Option.{option_map, option_map_or}
use Rattle.sym_records.specs.declared.line.Extent.{Extent}
use Rattle.sym_records.specs.declared.line.SymLine.{SymLine}
use Rattle.sym_meaning.specs.TextNames.{is_file, is_origin}
use Rattle.sym_meaning.specs.Findings.{func_run, holds_run}
use Rattle.sym_edges.specs.Addresses.{Range}
use Rattle.sym_findings.specs.declared.records_before.Preceding.{Preceding}
use Rattle.sym_findings.specs.declared.records_before.Known.{Known}
use Rattle.sym_findings.specs.declared.kind.Finding.{Finding}
use Rattle.sym_findings.specs.internal.Numbers.{has_number}
use Rattle.sym_findings.specs.internal.Ranges.{is_met}
use Rattle.sym_findings.specs.Findings.{OpenFunc, meets_any, open_func, open_init, init_run, findings_at}

-- if a FUNC is open, `lines` has the ranges of the line records under it
abbrev pub KeepsLines : List Range → Option OpenFunc → Type 0
KeepsLines lines None = Unit {0}
KeepsLines lines (Some f) = (e : Extent) → is_met lines e ≡ meets_any f.lines e

abbrev pub func_of : OpenFunc → Extent
func_of f = f.func

-- `p` stores what later records need of the records `before`
pub record Keeps (before : List SymLine) (p : Preceding) : Type 0 where
  pub files : (n : ℕ) → has_number p.files n ≡ list_any (is_file n) before
  pub origins : (n : ℕ) → has_number p.origins n ≡ list_any (is_origin n) before
  pub functions : (e : Extent) → is_met p.functions e ≡ meets_any (flat_map func_run before) e
  pub func : p.func ≡ option_map func_of (open_func before)
  pub lines : KeepsLines p.lines (open_func before)
  pub inits : (e : Extent) → is_met p.inits e ≡ meets_any (flat_map init_run before) e
  pub init : p.init ≡ open_init before

-- the numbers of all records are known
pub record Knows (all : List SymLine) (k : Known) : Type 0 where
  pub files : (n : ℕ) → has_number k.files n ≡ list_any (is_file n) all
  pub origins : (n : ℕ) → has_number k.origins n ≡ list_any (is_origin n) all

-- whether one of the ranges reaches outside of the open FUNC, if there is one
abbrev pub leaves_open : List Extent → Option Extent → Bool
leaves_open runs func = option_map_or (λ (f : Extent). not (list_all (holds_run f) runs)) func false

-- the records before an index, with the nearest first
unfoldable pub preceding_at : ℕ → List SymLine → List SymLine
preceding_at i lines = reverse (take i lines)

-- after one more record, its findings are listed, and `p` stores what later records need
pub record Judged (all before : List SymLine) (index : ℕ) (s : SymLine) (old new : List Finding) (p : Preceding) : Type 0 where
  pub found : new ≡ old ++ findings_at all before index s
  pub keeps : Keeps (s ∷ before) p
