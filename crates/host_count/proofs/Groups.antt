-- The groups of a report, one behind the other. Assumes nothing.
use Rattle.wire.proofs.Basics.{◌≡◌, ℕ, List, ◌++◌, length, length-append, arith}
use Rattle.wire.specs.Overlay.{overlay}
use Rattle.wire.proofs.Overlays.{overlay-next}

module _ (d a r l t p s : List ℕ) (la : 4 ≡ length a) (lr : 10 ≡ length r) (ll : 2 ≡ length l) (lt : 256 ≡ length t) (lp : 256 ≡ length p) where
  at-lists : 14 ≡ length (a ++ r)
  at-lists = omega (arith, length-append a r, la, lr)

  at-tile : 16 ≡ length (a ++ r ++ l)
  at-tile = omega (arith, length-append (a ++ r) l, at-lists, ll)

  at-pits : 272 ≡ length (a ++ r ++ l ++ t)
  at-pits = omega (arith, length-append (a ++ r ++ l) t, at-tile, lt)

  at-sure : 528 ≡ length (a ++ r ++ l ++ t ++ p)
  at-sure = omega (arith, length-append (a ++ r ++ l ++ t) p, at-pits, lp)

  pub laid : {u v w x y z : List ℕ} → u ≡ overlay d 0 a → v ≡ overlay u 4 r → w ≡ overlay v 14 l → x ≡ overlay w 16 t → y ≡ overlay x 272 p → z ≡ overlay y 528 s
      → z ≡ overlay d 0 (a ++ r ++ l ++ t ++ p ++ s)
  laid {u} {v} {w} {x} {y} {z} eu ev ew ex ey ez =
      let two = overlay-next d a r u v 4 eu la ev in
      let three = overlay-next d (a ++ r) l v w 14 two at-lists ew in
      let four = overlay-next d (a ++ r ++ l) t w x 16 three at-tile ex in
      let five = overlay-next d (a ++ r ++ l ++ t) p x y 272 four at-pits ey in
      overlay-next d (a ++ r ++ l ++ t ++ p) s y z 528 five at-sure ez
