-- Document 01, "The parts": "up to 16 controllers"; document 02, U12: "n goes up to 32". The one limit that arrays, tests and proofs go by.
use Rattle.std.specs.Prelude.{ℕ}

abbrev pub limit : ℕ
limit = 32
