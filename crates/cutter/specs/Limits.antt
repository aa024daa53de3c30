-- The numbers of document 01 that bound the cutter's datagrams. Nothing else in any specs/ writes them out.
use Rattle.std.specs.Prelude.{ℕ}

-- the smallest size of a datagram that a message is cut for
abbrev pub least_size : ℕ
least_size = 96

-- and the largest
abbrev pub most_size : ℕ
most_size = 65_507
