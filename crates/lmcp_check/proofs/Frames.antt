-- The frame of a message, case by case. Assumes nothing.
use Rattle.wire.proofs.Basics.{◌≡◌, ℕ, ◌≤◌, ◌+◌, ◌<◌, List, true, false, or-true, length, drop, take, eq-eqb, le-ltb, ne_eqb, lt-ltb}
use Rattle.wire.specs.Bytes.{be}
use Rattle.wire.specs.Same.{same}
use Rattle.lmcp.specs.Limits.{max_message, magic}
use Rattle.lmcp.specs.Message.{stored, before, checksum_of, frame}

module _ (m : List ℕ) where
  pub too_short : length m < 12 → 20 ≡ frame m
  unfolding frame
  too_short h = simp (lt-ltb (length m) 12 h)

  module _ (l : 12 ≤ length m) where
    pub not-magic : same (take 4 m) magic ≡ false → 20 ≡ frame m
    unfolding frame
    not-magic h = simp (le-ltb (length m) 12 l, h)

    module _ (g : same (take 4 m) magic ≡ true) where
      pub too_long_lem : max_message < length m → 21 ≡ frame m
      unfolding frame
      too_long_lem h = simp (le-ltb (length m) 12 l, g, lt-ltb max_message (length m) h)

      module _ (s : length m ≤ max_message) where
        pub not-length : (length m ≡ 12 + be 4 (drop 4 m) → ⊥) → 21 ≡ frame m
        unfolding frame
        not-length h = simp (le-ltb (length m) 12 l, g, le-ltb max_message (length m) s, ne_eqb (length m) (12 + be 4 (drop 4 m)) h)

        module _ (e : length m ≡ 12 + be 4 (drop 4 m)) where
          pub sum-none : stored m ≡ 0 → 0 ≡ frame m
          unfolding frame
          sum-none z =
              simp (
                le-ltb (length m) 12 l,
                g,
                le-ltb max_message (length m) s,
                eq-eqb (length m) (12 + be 4 (drop 4 m)) e,
                eq-eqb (stored m) 0 z,
              )

          pub sum-right : stored m ≡ checksum_of (before m) → 0 ≡ frame m
          unfolding frame
          sum-right q =
              simp (
                le-ltb (length m) 12 l,
                g,
                le-ltb max_message (length m) s,
                eq-eqb (length m) (12 + be 4 (drop 4 m)) e,
                eq-eqb (stored m) (checksum_of (before m)) q,
                or-true,
              )

          pub sum-wrong : (stored m ≡ 0 → ⊥) → (stored m ≡ checksum_of (before m) → ⊥) → 22 ≡ frame m
          unfolding frame
          sum-wrong z q =
              simp (
                le-ltb (length m) 12 l,
                g,
                le-ltb max_message (length m) s,
                eq-eqb (length m) (12 + be 4 (drop 4 m)) e,
                ne_eqb (stored m) 0 z,
                ne_eqb (stored m) (checksum_of (before m)) q,
              )
