-- The walks that write: what is not refused as a whole is refused nowhere, and what is laid of each part is laid of the whole. Assumes nothing.
use Rattle.wire.proofs.Basics.{◌∙◌, sym, ◌≡◌, ap, refl, subst, ℕ, ◌≤◌, ◌+◌, ◌<◌, ◌-◌, List, [], ◌++◌, length, drop, length-append, sets, arith}
use Rattle.lmcp.specs.InsideEnds.{went}
use Rattle.lmcp.specs.Run.{Run, got, Tag, tag, and_then, after}
use Rattle.lmcp.specs.Table.{Table, fields_of}
use Rattle.lmcp.specs.Walk.{Way, fields, object}
use Rattle.lmcp.specs.InsideAhead.{Few0, Ahead, Lays}
use Rattle.lmcp.proofs.RunParts.{then-got, Afters, after-got}
use Rattle.lmcp.proofs.WalkPlaces.{run_is, made, marked-then, same-run, inside, object-is, inside-null, inside-fields}

module _ {A B : Type 0} where
  pub ahead_as : {X Y : Run A B} {q room : ℕ} → X ≡ Y → Ahead X q room → Ahead Y q room
  ahead_as {X} {Y} {q} {room} e h = subst (λ (Z : Run A B). Ahead Z q room) e h

  pub ahead_in : {X : Run A B} {q room room' : ℕ} → room ≡ room' → Ahead X q room → Ahead X q room'
  ahead_in {X} {q} {room} {room'} e h = subst (Ahead X q) e h

  pub ahead_more : {X : Run A B} {q room room' : ℕ} → room ≤ room' → room' < 18446744073709551616 → Ahead X q room → Ahead X q room'
  ahead_more l m h = record { ys = h.ys; rest = h.rest; is = h.is; fits = omega (arith, h.fits); small = m }

  pub laid_as : {X Y : Run A B} {s : List A} {out : List B} {q : ℕ} (p' q' : ℕ) (out' : List B) → Y ≡ X → Lays s out q X p' q' out' → Lays s out q Y p' q' out'
  laid_as {X} {Y} {s} {out} {q} p' q' out' e g = same-run Few0 s out q (went p' q') out' e g

  -- one part and then another
  module _ (Y : Run A B) (k : List A → Run A B) {q room : ℕ} (h : Ahead (and_then Y k) q room) where
    pub ahead-first : Ahead Y q room
    ahead-first =
        let t = then-got Y k h.ys h.rest h.is in
        record { ys = t.ys; rest = t.mid; is = t.first; fits = omega (arith, h.fits, simp length-append at (ap length t.all)); small = h.small }

    pub ahead-next : {s : List A} {out : List B} {p' q' : ℕ} {out' : List B} → Lays s out q Y p' q' out' → Ahead (k (drop p' s)) q' room
    ahead-next {s} {out} {p'} {q'} {out'} g =
        let t = then-got Y k h.ys h.rest h.is in
        let x : got t.ys t.mid ≡ got g.ys (drop p' s) = sym t.first ∙ run_is g in
        let a : t.ys ≡ g.ys = cc in
        let b : t.mid ≡ drop p' s = cc in
        record { ys = t.more; rest = h.rest; is = ap k (sym b) ∙ t.then; fits = omega (arith, h.fits, simp length-append at (ap length t.all), ap length a, g.place); small = h.small }

  -- a count or a head laid, and then what follows it
  pub ahead-tag : {X : Tag A B} {k : ℕ → List A → Run A B} {q room : ℕ} (h : Ahead (after X k) q room) → Afters X k h.ys h.rest
  ahead-tag {X} {k} h = after-got X k h.ys h.rest h.is

  module _ (s : List A) {X : Tag A B} (k : ℕ → List A → Run A B) (n : ℕ) (ys : List B) (p : ℕ) (e : X ≡ tag n ys (drop p s)) where
    pub after-ahead : {q room : ℕ} → Ahead (after X k) q room → (q + length ys ≤ room) × Ahead (k n (drop p s)) (q + length ys) room
    after-ahead {q} {room} h =
        let t = ahead-tag h in
        let x : tag n ys (drop p s) ≡ tag t.number t.ys t.mid = sym e ∙ t.first in
        let a : t.number ≡ n = cc in
        let b : t.ys ≡ ys = cc in
        let d : t.mid ≡ drop p s = cc in
        let y : k t.number t.mid ≡ k n (drop p s) = ap (λ (j : ℕ). k j t.mid) a ∙ ap (k n) d in
        let z : length h.ys ≡ length ys + length t.more = ap length t.all ∙ ap (λ (u : List B). length (u ++ t.more)) b ∙ length-append ys t.more in
        (omega (arith, h.fits, z), record { ys = t.more; rest = h.rest; is = sym y ∙ t.then; fits = omega (arith, h.fits, z); small = h.small })

    pub after-laid : {q : ℕ} {out o1 : List B} {q1 : ℕ} → p ≤ length s → o1 ≡ sets out q ys → q1 ≡ q + length ys → (p' q' : ℕ) (out' : List B) → Lays s o1 q1 (k n (drop p s)) p' q' out' → Lays s out q (after X k) p' q' out'
    after-laid w o f p' q' out' g = marked-then {Few = Few0} (record { ys = ys; whole = e; laid = o; place = f; fewer = tt; within = w }) k (went p' q') out' g

-- ---- an object of a declared type t at a place

module _ {A B : Type 0} (W : Way A B) (T : Table) where
  pub record ObjectAt (d t : ℕ) (s : List A) (at q room : ℕ) : Type 0 where
    pub within : at ≤ length s
    pub ahead : Ahead (object W T d t (drop at s)) q room

  module _ {d t : ℕ} {s : List A} {at q room : ℕ} (P : ObjectAt d t s at q room) where
    pub opened : Ahead (after (W.head d t (drop at s)) (inside W T d)) q room
    opened = ahead_as (object-is W T d t (drop at s)) P.ahead

    -- its head, whatever it is
    pub its-head : Afters (W.head d t (drop at s)) (inside W T d) opened.ys opened.rest
    its-head = ahead-tag opened

    -- null
    module _ (null : fields_of T 0 ≡ []) (ys : List B) (p : ℕ) (e : W.head d t (drop at s) ≡ tag 0 ys (drop p s)) where
      pub null-fits : q + length ys ≤ room
      null-fits = (after-ahead s (inside W T d) 0 ys p e opened).0

      pub lays-null : p ≤ length s → {out : List B} (q' : ℕ) (out' : List B) → out' ≡ sets out q ys → q' ≡ q + length ys → Lays s out q (object W T d t (drop at s)) p q' out'
      lays-null w q' out' o f =
          laid_as p q' out' (object-is W T d t (drop at s))
          (after-laid s (inside W T d) 0 ys p e w o f p q' out' (made {Few = Few0} [] p q' (inside-null W T d (drop p s) null) refl (let y : q' ≡ q' + 0 = omega arith in y) tt w))

    -- fields
    module _ (n : ℕ) (ys : List B) (p : ℕ) (e : W.head d t (drop at s) ≡ tag n ys (drop p s)) (deep : 0 < d) where
      pub some_fits : (q' : ℕ) → q' ≡ q + length ys → (q' ≤ room) × Ahead (fields W (object W T (d - 1)) (fields_of T n) (drop p s)) q' room
      some_fits q' f =
          let a = after-ahead s (inside W T d) n ys p e opened in
          (omega (arith, a.0), subst (λ (j : ℕ). Ahead (fields W (object W T (d - 1)) (fields_of T n) (drop p s)) j room) (sym f) (ahead_as (inside-fields W T d n (drop p s) deep) a.1))

      pub lays-some : p ≤ length s → {out o1 : List B} {q1 : ℕ} → o1 ≡ sets out q ys → q1 ≡ q + length ys → (p' q' : ℕ) (out' : List B) → Lays s o1 q1 (fields W (object W T (d - 1)) (fields_of T n) (drop p s)) p' q' out' → Lays s out q (object W T d t (drop at s)) p' q' out'
      lays-some w o f p' q' out' g =
          laid_as p' q' out' (object-is W T d t (drop at s)) (after-laid s (inside W T d) n ys p e w o f p' q' out' (laid_as p' q' out' (inside-fields W T d n (drop p s) deep) g))
