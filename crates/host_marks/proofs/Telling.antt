-- Both ways in which a message and a list's marks are told; no second answer. Assumes nothing.
use Rattle.wire.proofs.Basics.{◌∙◌, sym, ◌≡◌, ap, refl, ℕ, ◌≤◌, ◌<◌, List, inl, inr, length, set, ltb, ℤ, le-ltb, lt-ltb}
use Rattle.wire.specs.Overlay.{overlay}
use Rattle.wire.specs.Slices.{◌⇒◌}
use Rattle.wire.proofs.Overlays.{overlay-nil, overlay-one}
use Rattle.wire.proofs.Choices.{either, never}
use Rattle.lmcp.specs.Found.{Found}
use Rattle.lmcp.specs.Found as found
use Rattle.lmcp.specs.Message.{ReadTo}
use Rattle.lmcp.specs.Lists.{read_list}
use Rattle.lmcp.proofs.Once.{read-once}
use Rattle.mark_rows.specs.Rows as rows
use Rattle.mark_rows.specs.Rows.{Rows, GivesRows}
use Rattle.mark_rows.proofs.Once.{rows-once}
use Rattle.host_marks.specs.Told.{message_code, message_numbers, MessageTold, marks_code, marks_numbers, MarksTold}

-- ---- a message

module _ (m : List ℕ) (l : List ℤ) (b : List ℕ) where
  pub not-read : length b < 1 → MessageTold m l l (b ⇒ b) 13
  not-read h = record {
    unread = λ e. record { gave = refl; stays = refl; nothing = refl };
    read = λ e. never (lt-ltb (length b) 1 h) e;
  }

  module _ (room : 1 ≤ length b) (f : Found) (l' : List ℤ) (r : ReadTo (read_list m) l f l') where
    read-so : (b' : List ℕ) (answer : ℕ) → answer ≡ message_code f → b' ≡ overlay b 0 (message_numbers f) → MessageTold m l l' (b ⇒ b') answer
    read-so b' answer g e = record {
      unread = λ u. never u (le-ltb (length b) 1 room);
      read = λ u. record { found = f; reads = r; gave = g; list = e };
    }

    pub read-numbers : (n : ℕ) → f ≡ found.Numbers n → (b' : List ℕ) → b' ≡ set b 0 n → MessageTold m l l' (b ⇒ b') 0
    read-numbers n e b' q = read-so b' 0 (sym (ap message_code e)) ((q ∙ sym (overlay-one b 0 n)) ∙ sym (ap (λ (x : Found). overlay b 0 (message_numbers x)) e))

    pub read-refused : (n : ℕ) → f ≡ found.Refused n → MessageTold m l l' (b ⇒ b) n
    read-refused n e = read-so b n (sym (ap message_code e)) (sym (ap (λ (x : Found). overlay b 0 (message_numbers x)) e ∙ overlay-nil b 0))

  pub message-told-once : {l₁ l₂ : List ℤ} {b₁ b₂ : List ℕ} {x y : ℕ} → MessageTold m l l₁ (b ⇒ b₁) x → MessageTold m l l₂ (b ⇒ b₂) y → (x ≡ y) × ((l₁ ≡ l₂) × (b₁ ≡ b₂))
  message-told-once p q = elim (either (ltb (length b) 1)) [
    | inl e ↦ let u = p.unread e in let v = q.unread e in (u.gave ∙ sym v.gave, (u.stays ∙ sym v.stays, u.nothing ∙ sym v.nothing))
    | inr e ↦
        let u = p.read e in
        let v = q.read e in
        let o = read-once _ _ _ _ u.reads v.reads in
        (u.gave ∙ (ap message_code o.0 ∙ sym v.gave), (o.1, u.list ∙ (ap (λ (f : Found). overlay b 0 (message_numbers f)) o.0 ∙ sym v.list)))
  ]

-- ---- the marks of a list

module _ (l w : List ℤ) (b : List ℕ) where
  pub not-marked : length b < 3 → MarksTold l w w (b ⇒ b) 13
  not-marked h = record {
    unread = λ e. record { gave = refl; stays = refl; nothing = refl };
    marked = λ e. never (lt-ltb (length b) 3 h) e;
  }

  module _ (room : 3 ≤ length b) (r : Rows) (w' : List ℤ) (g : GivesRows l w r w') where
    marked-so : (b' : List ℕ) (answer : ℕ) → answer ≡ marks_code r → b' ≡ overlay b 0 (marks_numbers r) → MarksTold l w w' (b ⇒ b') answer
    marked-so b' answer a e = record {
      unread = λ u. never u (le-ltb (length b) 3 room);
      marked = λ u. record { given = r; gives = g; gave = a; list = e };
    }

    pub marks-some : (s : Rows) → r ≡ s → marks_code s ≡ 0 → (b' : List ℕ) → b' ≡ overlay b 0 (marks_numbers s) → MarksTold l w w' (b ⇒ b') 0
    marks-some s e z b' q = marked-so b' 0 (sym (ap marks_code e ∙ z)) (q ∙ sym (ap (λ (x : Rows). overlay b 0 (marks_numbers x)) e))

    pub marks-refused : (k : ℕ) → r ≡ rows.Refused k → MarksTold l w w' (b ⇒ b) k
    marks-refused k e = marked-so b k (sym (ap marks_code e)) (sym (ap (λ (x : Rows). overlay b 0 (marks_numbers x)) e ∙ overlay-nil b 0))

  pub marks-told-once : {w₁ w₂ : List ℤ} {b₁ b₂ : List ℕ} {x y : ℕ} → MarksTold l w w₁ (b ⇒ b₁) x → MarksTold l w w₂ (b ⇒ b₂) y → (x ≡ y) × ((w₁ ≡ w₂) × (b₁ ≡ b₂))
  marks-told-once p q = elim (either (ltb (length b) 3)) [
    | inl e ↦ let u = p.unread e in let v = q.unread e in (u.gave ∙ sym v.gave, (u.stays ∙ sym v.stays, u.nothing ∙ sym v.nothing))
    | inr e ↦
        let u = p.marked e in
        let v = q.marked e in
        let o = rows-once u.gives v.gives in
        (u.gave ∙ (ap marks_code o.0 ∙ sym v.gave), (o.1, u.list ∙ (ap (λ (r : Rows). overlay b 0 (marks_numbers r)) o.0 ∙ sym v.list)))
  ]
