-- The watch's limit. Definitions only.
use Rattle.std.specs.Prelude.{ℕ}

abbrev pub max_senders : ℕ
max_senders = 16
