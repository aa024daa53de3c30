-- Both ways in which a tile's pits are told; no second answer. Assumes nothing.
use Rattle.wire.proofs.Basics.{◌∙◌, sym, ◌≡◌, ap, refl, ℕ, ◌≤◌, ◌<◌, List, inl, inr, length, set, ltb, le-ltb, lt-ltb}
use Rattle.wire.specs.Overlay.{overlay}
use Rattle.wire.specs.Slices.{◌⇒◌}
use Rattle.wire.proofs.Overlays.{overlay-nil, overlay-one}
use Rattle.wire.proofs.Choices.{either, never}
use Rattle.tile_pits.specs.Pits as given
use Rattle.tile_pits.specs.Pits.{Pits, Map, GivesPits}
use Rattle.tile_pits.proofs.Once.{pits-once}
use Rattle.host_pits.specs.Told.{pits_code, pits_numbers, PitsTold}

module _ (x : Map) (t : ℕ) (n c b : List ℕ) where
  pub not_written : length b < 1 → PitsTold x t (n ⇒ n) (c ⇒ c) (b ⇒ b) 13
  not_written h = record {
    unwritten = λ e. record { gave = refl; numbers = refl; sureness = refl; nothing = refl };
    written = λ e. never (lt-ltb (length b) 1 h) e;
  }

  module _ (room : 1 ≤ length b) (r : Pits) (n' c' : List ℕ) (g : GivesPits x t (n ⇒ n') (c ⇒ c') r) where
    written-so : (b' : List ℕ) (answer : ℕ) → answer ≡ pits_code r → b' ≡ overlay b 0 (pits_numbers r) → PitsTold x t (n ⇒ n') (c ⇒ c') (b ⇒ b') answer
    written-so b' answer a e = record {
      unwritten = λ u. never u (le-ltb (length b) 1 room);
      written = λ u. record { given = r; gives = g; gave = a; list = e };
    }

    pub pits-many : (k : ℕ) → r ≡ given.Many k → (b' : List ℕ) → b' ≡ set b 0 k → PitsTold x t (n ⇒ n') (c ⇒ c') (b ⇒ b') 0
    pits-many k e b' q = written-so b' 0 (sym (ap pits_code e)) ((q ∙ sym (overlay-one b 0 k)) ∙ sym (ap (λ (z : Pits). overlay b 0 (pits_numbers z)) e))

    pub pits-refused : (k : ℕ) → r ≡ given.Refused k → PitsTold x t (n ⇒ n') (c ⇒ c') (b ⇒ b) k
    pits-refused k e = written-so b k (sym (ap pits_code e)) (sym (ap (λ (z : Pits). overlay b 0 (pits_numbers z)) e ∙ overlay-nil b 0))

  pub pits-told-once : {n₁ c₁ b₁ n₂ c₂ b₂ : List ℕ} {y z : ℕ} → PitsTold x t (n ⇒ n₁) (c ⇒ c₁) (b ⇒ b₁) y → PitsTold x t (n ⇒ n₂) (c ⇒ c₂) (b ⇒ b₂) z
      → (y ≡ z) × ((n₁ ≡ n₂) × ((c₁ ≡ c₂) × (b₁ ≡ b₂)))
  pits-told-once p q = elim (either (ltb (length b) 1)) [
    | inl e ↦ let u = p.unwritten e in let v = q.unwritten e in (u.gave ∙ sym v.gave, (u.numbers ∙ sym v.numbers, (u.sureness ∙ sym v.sureness, u.nothing ∙ sym v.nothing)))
    | inr e ↦
        let u = p.written e in
        let v = q.written e in
        let o = pits-once u.gives v.gives in
        (u.gave ∙ (ap pits_code o.0 ∙ sym v.gave), (o.1.0, (o.1.1, u.list ∙ (ap (λ (r : Pits). overlay b 0 (pits_numbers r)) o.0 ∙ sym v.list))))
  ]
