-- The verdict of a judgement. Judgements are made before anything is written.
use Rattle.std.specs.Prelude.{◌≡◌, ℕ, Bool, true, false, List, []}
use Rattle.sym_records.specs.Canon.{canon_text}
use Rattle.sym_records.specs.declared.line.SymLine.{SymLine}
use Rattle.dumpsyms_cmd.specs.Verdict.{Verdict}
use Rattle.dumpsyms_cmd.specs.declared.judgement.Output.{Output}
use Rattle.dumpsyms_cmd.specs.declared.judgement.Output.TheVariants.{Nothing, Text, Bytes, Shared, Records}
use Rattle.dumpsyms_cmd.specs.declared.judgement.Message.{Message}
use Rattle.dumpsyms_cmd.specs.declared.judgement.Message.TheVariants.{Fixed, Made}
use Rattle.dumpsyms_cmd.specs.declared.judgement.Judgement.{Judgement}

-- the bytes for standard output, and those for standard error
abbrev pub out_bytes : Output → List ℕ
out_bytes Nothing = []
out_bytes (Text lines) = canon_text lines
out_bytes (Bytes text) = text
out_bytes (Shared text) = text
out_bytes (Records lines) = canon_text lines

abbrev pub err_bytes : Message → List ℕ
err_bytes (Fixed line) = line.now
err_bytes (Made text) = text

-- the verdict of a judgement
abbrev pub judgement_verdict : Judgement → Verdict
judgement_verdict j = record { status = j.status; out = out_bytes j.out; err = err_bytes j.err }

-- whether standard output gets something
abbrev pub is_some_output : Output → Bool
is_some_output Nothing = false
is_some_output (Text lines) = true
is_some_output (Bytes text) = true
is_some_output (Shared text) = true
is_some_output (Records lines) = true

-- a judgement refuses with a message for which P holds, or it gives records and a message for which Q holds
abbrev pub RefusesOrGives : Output → ℕ → List ℕ → (List ℕ → Type 0) → (List SymLine → List ℕ → Type 0) → Type 0
RefusesOrGives Nothing status err P Q = (status ≡ 1) × P err
RefusesOrGives (Text lines) status err P Q = (status ≡ 0) × Q lines err
RefusesOrGives (Bytes text) status err P Q = ⊥
RefusesOrGives (Shared text) status err P Q = ⊥
RefusesOrGives (Records lines) status err P Q = ⊥

abbrev pub Judges : Judgement → (List ℕ → Type 0) → (List SymLine → List ℕ → Type 0) → Type 0
Judges j P Q = RefusesOrGives j.out j.status (err_bytes j.err) P Q
