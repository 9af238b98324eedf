-- The version of the library.
use Rattle.std.specs.Prelude.{ℕ, ◌+◌, ◌*◌}

-- a version as one number, by which versions are ordered where minor and patch are below 1000
abbrev pub version_of : ℕ → ℕ → ℕ → ℕ
version_of major minor patch = 1000000 * major + 1000 * minor + patch

-- version 0.1.0
abbrev pub version : ℕ
version = version_of 0 1 0
