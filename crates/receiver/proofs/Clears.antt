-- A part filled with zeros. Assumes nothing.
use Rattle.wire.proofs.Basics.{◌∙◌, sym, ◌≡◌, ap, ℕ, ◌+◌, ◌-◌, ◌≤◌, List, length, take, drop, take_all, replicate, length-replicate, length-take-le, length-drop, arith}
use borrow.Rule.Slice.PartMut.{put_mid}
use Rattle.wire.specs.Overlay.{overlay}
use Rattle.wire.proofs.Overlays.{overlay-part}

pub cleared : (w v : List ℕ) (b n : ℕ) → b + n ≤ length w → v ≡ replicate (length (take (b + n - b) (drop b w))) 0
    → put_mid b (b + n - b) w v ≡ overlay w b (replicate n 0)
cleared w v b n h e =
    let zeros : List ℕ = replicate n 0 in
    let long : length zeros ≡ n = length-replicate n 0 in
    let part : length (take (b + n - b) (drop b w)) ≡ n = omega (arith, length-take-le {A = ℕ}, length-drop {A = ℕ}) in
    let filled : v ≡ take n zeros = e ∙ ap (λ (k : ℕ). replicate k 0) part ∙ sym (take_all n zeros (omega arith)) in
    overlay-part w b zeros b n (b + n - b) v (omega arith) (omega arith) filled (omega arith)
