-- The version of the calls: its major, minor and patch numbers, 8 bits each. CHANGELOG.md says when each rises.
use Rattle.std.specs.Prelude.{ℕ, ◌+◌, ◌*◌}

abbrev pub major : ℕ
major = 1

abbrev pub minor : ℕ
minor = 0

abbrev pub patch : ℕ
patch = 0

abbrev pub version : ℕ
version = major * 65536 + minor * 256 + patch
