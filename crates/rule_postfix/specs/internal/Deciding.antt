-- What holds during the pass over the entries.
use Rattle.std.specs.Prelude.{◌≡◌, ℕ, ◌+◌, ◌^◌, ◌<◌, ◌≤◌, true, List, [], map}
use Rattle.sym_edges.specs.declared.fault.Stop.{Stop}
use Rattle.sym_edges.specs.declared.fault.Stop.TheVariants.{Fault, NoMemory}
use Rattle.sym_edges.specs.declared.reason.Reason.{Reason}
use Rattle.sym_edges.specs.Addresses.{Range}
use Rattle.range_set.specs.Enclosing.{encloses}
use Rattle.frame_entries.specs.FdeFields.{FdeFields}
use Rattle.sym_records.specs.Canon.{canon_text}
use Rattle.sym_records.specs.Spelled.{text_bytes}
use Rattle.rule_postfix.specs.declared.progress.Progress.{Progress}
use Rattle.rule_postfix.specs.Written.{Decided, has_range, range_of, written_lines}

-- each range of addresses inside a range of code starts at or above `base`
pub record LiesAbove (base : ℕ) (code : List Range) : Type 0 where
  pub at : (start end : ℕ) → encloses code start end ≡ true → base ≤ start

-- the range of an entry is not empty, and ends at `end`, below 2^64
pub record EndsAt (e : FdeFields) (end : ℕ) : Type 0 where
  pub ranged : has_range e ≡ true
  pub some : 0 < e.size
  pub sum : end ≡ e.start + e.size
  pub fits : end < 2 ^ 64

-- nothing is decided yet
abbrev pub none_decided : Decided
none_decided = record { written = []; omitted = [] }

-- the stop is a reason, for which `P` holds
abbrev pub IfRefused : Stop Reason → (Reason → Type 0) → Type 0
IfRefused (Fault why) P = P why
IfRefused NoMemory P = ⊥

-- the progress has what was decided: the text of the written entries' records, the omissions, and the ranges of the written entries as taken
pub record Shows (base : ℕ) (p : Progress) (d : Decided) : Type 0 where
  pub text : text_bytes p.text ≡ canon_text (written_lines base d.written)
  pub omitted : p.omitted.items ≡ d.omitted
  pub taken : p.taken ≡ map range_of d.written
