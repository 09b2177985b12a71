-- What writing an answer does to the sinks.
use Rattle.std.specs.Prelude.{◌≡◌, ◌⊎◌, ℕ, Bool, true, List}
use Rattle.dumpsyms_cmd.specs.Verdict.{Verdict}
use Rattle.dumpsyms_cmd.specs.Observed.{SinkSeen, SinkFailed, Received, ReceivedFront, ReceivedWhole, ReceivedFronts}

-- either a text was written whole, and the status is the one for it; or a write failed, and the status is 4
abbrev pub Says : ℕ → ℕ → SinkSeen → List ℕ → Type 0
Says result status sink text = ((result ≡ status) × Received sink text) ⊎ ((result ≡ 4) × ReceivedFront sink text × SinkFailed sink)

-- either the texts of a verdict were received whole, and the status is its own; or a write failed, and the status is 4. A write to out fails only if
-- out gets something
abbrev pub Writes : ℕ → Verdict → Bool → SinkSeen → SinkSeen → Type 0
Writes result v has out err =
    ((result ≡ v.status) × ReceivedWhole out err v)
    ⊎ ((result ≡ 4) × ReceivedFronts out err v × (((has ≡ true) × SinkFailed out) ⊎ SinkFailed err))
