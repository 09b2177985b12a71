use Rattle.std.proofs.Common.{◌≡◌, length}
use Rattle.core_file.specs.Modules.{behind_slash}
use Rattle.core_file.specs.internal.Slashes.{behind_or}
use Rattle.core_file.proofs.names.behind_slash.Given as goal

abbrev pub invariant-bytes : goal.invariant-bytes
invariant-bytes l = behind_or l.rest l.name ≡ behind_slash l.fn.text

abbrev pub decreases-bytes : goal.decreases-bytes
decreases-bytes l = length l.rest
