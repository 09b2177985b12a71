-- The text of a frame: the CFA, the return address and the sixteen registers, a line each; or `none` if there are no rules.
use Rattle.std.specs.Prelude.{ℕ, ◌==◌, if◌then◌else◌, List, ◌∷◌, ◌++◌, drop, codes, Option, Some, None}
use Rattle.std.specs.List.{flat_map, range_with_len, slice_index_or}
use Rattle.sym_edges.specs.Abi.{register_name}
use Rattle.sym_records.specs.Fields.{hex}
use Rattle.cfi_eval.specs.declared.outcome.Cause.{Cause}
use Rattle.cfi_eval.specs.declared.outcome.Cause.TheVariants as cause
use Rattle.cfi_eval.specs.declared.outcome.Outcome.{Outcome}
use Rattle.cfi_eval.specs.declared.outcome.Outcome.TheVariants.{Value, Undefined, Failed}
use Rattle.cfi_eval.specs.declared.outcome.Frame.{Frame}
use Rattle.stack_text.specs.Lines.{line}

-- a register's name without `$`; 16 is rip
unfoldable pub short_name : ℕ → List ℕ
short_name register = if register == 16 then codes "rip" else drop 1 (register_name register)

-- why a rule has no value
abbrev pub cause_text : Cause → List ℕ
cause_text (cause.Missing register) = codes "missing " ++ short_name register
cause_text (cause.Unreadable address) = codes "unreadable " ++ hex address
cause_text cause.Divide = codes "divide"
cause_text cause.Align = codes "align"
cause_text cause.Stack = codes "stack"
cause_text cause.UnknownName = codes "unknown"
cause_text cause.NoCfa = codes "no-cfa"

abbrev pub outcome_text : Outcome → List ℕ
outcome_text (Value v) = hex v
outcome_text Undefined = codes "undefined"
outcome_text (Failed why) = codes "failed " ++ cause_text why

-- a line with a name and what its rule evaluates to
abbrev pub outcome_line : List ℕ → Outcome → List ℕ
outcome_line name outcome = name ++ 32 ∷ line (outcome_text outcome)

abbrev pub register_line : Frame → ℕ → List ℕ
register_line frame register = outcome_line (short_name register) (slice_index_or frame.regs register Undefined)

-- the lines of the first `count` registers, by their DWARF numbers
unfoldable pub registers_text : Frame → ℕ → List ℕ
registers_text frame count = flat_map (register_line frame) (range_with_len 0 count)

-- the eighteen lines
abbrev pub frame_text : Frame → List ℕ
frame_text frame = outcome_line (codes "cfa") frame.cfa ++ (outcome_line (codes "ra") frame.ra ++ registers_text frame 16)

abbrev pub frame_or_none : Option Frame → List ℕ
frame_or_none None = line (codes "none")
frame_or_none (Some frame) = frame_text frame
