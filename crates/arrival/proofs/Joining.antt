-- One message and the slot that it is joined in. Nothing here supposes anything of the other slots or of what else arrives.
use Rattle.wire.proofs.Basics.{◌∙◌, sym, ◌≡◌, ap, refl, subst, ℕ, ◌≤◌, ◌+◌, ◌<◌, suc, ◌*◌, List, true, false, Bool, ◌&&◌, ◌||◌, not, inl, inr, ◌≢◌, length, drop, get_or, take, length-drop}
use Rattle.wire.proofs.Basics.{length-take-le, get_or-drop, get_or-take, ext_get_or, eqb, eq-eqb, le-ltb, ne_eqb, lt-ltb, le-leb, ℕ_discrete, dec_le, arith}
use native.Mathlib.Nat.{add_assoc}
use Rattle.wire.specs.Choice.{pick}
use Rattle.wire.specs.Same.{same}
use Rattle.wire.proofs.Choices.{either, never, and-of}
use Rattle.wire.proofs.Parts.{same_refl}
use Rattle.datagram.specs.Limits.{max_fragments}
use Rattle.datagram.specs.Said.{Fragment}
use Rattle.steps.specs.Limits.{slot_count, ledger_length}
use Rattle.steps.specs.Held.{held_words, is_held, hold}
use Rattle.steps.specs.Slots.{Slot, busy, padded, opening, filled}
use Rattle.steps.specs.Receive.{row, offset_of, length_of, place_of, store_with, ledger_with, same_message, same_fragment_lem, in_order_lem, agrees, agrees_with_all, step3, again, join}
use Rattle.steps.proofs.Tables.{or-not, or_yes, all_of}
use Rattle.steps.proofs.Helds.{none-held, hold-same, hold-other, hold-length, none-length}
use Rattle.steps.proofs.Seats.{unturned, counted-busy}
use Rattle.steps.proofs.Stores.{write_in, write-out, row_apart, offset-own, length-own, offset-other, length-other}
use Rattle.steps.proofs.Branches.{step3-again, step3-join}
use Rattle.arrival.specs.Demand.{Message, key, parts}
use Rattle.arrival.proofs.Pieces.{piece, Cut, piece-next, piece-before, piece-end, payload-fits, few-parts, payload-of}

-- slot s holds of message m just the fragments g
pub record Holds (C : ℕ) (m : Message) (s : ℕ) (g : ℕ → Bool) (slot : Slot) (store ledger : List ℕ) : Type 0 where
  pub cut : Cut C m
  pub its-key : slot.key ≡ key m
  pub its-size : slot.size ≡ length m.payload
  pub its-count : slot.count ≡ parts m
  pub words : length slot.held ≡ held_words
  pub bits : (k : ℕ) → k < parts m → is_held slot.held k ≡ g k
  pub its-name : g 0 ≡ true → slot.name ≡ padded m.name
  pub off : (k : ℕ) → k < parts m → g k ≡ true → offset_of ledger s k ≡ (piece C m k).offset
  pub len : (k : ℕ) → k < parts m → g k ≡ true → length_of ledger s k ≡ length (piece C m k).bytes
  pub bytes : (k x : ℕ) → k < parts m → g k ≡ true → x < length (piece C m k).bytes
      → get_or store (s * C + ((piece C m k).offset + x)) 0 ≡ get_or (piece C m k).bytes x 0

-- such a slot is open
pub holds-busy : {C : ℕ} {m : Message} {s : ℕ} {g : ℕ → Bool} {slot : Slot} {store ledger : List ℕ} → Holds C m s g slot store ledger → busy slot ≡ true
holds-busy {slot = slot} h = counted-busy slot (omega (arith, h.its-count, h.cut.some-parts))

-- a change elsewhere is not noticed
pub holds_move : {C : ℕ} {m : Message} {s : ℕ} {g : ℕ → Bool} {slot : Slot} {store ledger : List ℕ} (g' : ℕ → Bool) (store' ledger' : List ℕ)
    → Holds C m s g slot store ledger
    → ((k : ℕ) → k < parts m → g' k ≡ g k)
    → ((y : ℕ) → y < C → get_or store' (s * C + y) 0 ≡ get_or store (s * C + y) 0)
    → ((k : ℕ) → k < max_fragments → offset_of ledger' s k ≡ offset_of ledger s k)
    → ((k : ℕ) → k < max_fragments → length_of ledger' s k ≡ length_of ledger s k)
    → Holds C m s g' slot store' ledger'
holds_move {C} {m} {s} {g} {slot} {store} {ledger} g' store' ledger' h same' bytes' off' len' = record {
  cut = h.cut;
  its-key = h.its-key;
  its-size = h.its-size;
  its-count = h.its-count;
  words = h.words;
  bits = λ k b. h.bits k b ∙ sym (same' k b);
  its-name = λ e. h.its-name (sym (same' 0 h.cut.some-parts) ∙ e);
  off = λ k b e. off' k (omega (arith, few-parts h.cut)) ∙ h.off k b (sym (same' k b) ∙ e);
  len = λ k b e. len' k (omega (arith, few-parts h.cut)) ∙ h.len k b (sym (same' k b) ∙ e);
  bytes = λ k x b e i. bytes' ((piece C m k).offset + x) (omega (arith, payload-fits h.cut, piece-end h.cut k b)) ∙ h.bytes k x b (sym (same' k b) ∙ e) i;
}

-- a slot that was just opened for a fragment of the message
pub holds-open : {C : ℕ} {m : Message} → Cut C m → (s : ℕ) (g : ℕ → Bool) (slots : List Slot) (k : ℕ) → k < parts m → (store ledger : List ℕ)
    → ((j : ℕ) → j < parts m → g j ≡ false) → Holds C m s g (unturned (opening slots (key m) (piece C m k))) store ledger
unfolding opening
holds-open {C} {m} c s g slots k b store ledger none' = record {
  cut = c;
  its-key = refl;
  its-size = c.its-size k b;
  its-count = c.its-count k b;
  words = none-length;
  bits = λ j l. none-held j ∙ sym (none' j l);
  its-name = λ e. never e (none' 0 c.some-parts);
  off = λ j l e. never e (none' j l);
  len = λ j l e. never e (none' j l);
  bytes = λ j x l e i. never e (none' j l);
}

-- the bytes of a message whose fragments are all there
pub whole-bytes : {C : ℕ} {m : Message} {s : ℕ} {g : ℕ → Bool} {slot : Slot} {store ledger : List ℕ} → Holds C m s g slot store ledger
    → s * C + C ≤ length store → ((k : ℕ) → k < parts m → g k ≡ true) → take (length m.payload) (drop (s * C) store) ≡ m.payload
whole-bytes {C} {m} {s} {g} {slot} {store} {ledger} h room all =
    payload-of h.cut (take (length m.payload) (drop (s * C) store))
    (length-take-le (length m.payload) (drop (s * C) store) (omega (arith, length-drop (s * C) store, payload-fits h.cut)))
    (λ k x b i.
    get_or-take (length m.payload) (drop (s * C) store) ((piece C m k).offset + x) 0 (omega (arith, piece-end h.cut k b))
    ∙ get_or-drop (s * C) store ((piece C m k).offset + x) 0
    ∙ h.bytes k x b (all k b) i)

-- ---- fragment k arrives where the message is open

in_order : (i e j b : ℕ) → e ≤ b → (suc i ≡ j → e ≡ b) → in_order_lem i e j b ≡ true
in_order i e j b a c = elim (ℕ_discrete (suc i) j) [
  | yes q ↦ rw (eq-eqb (suc i) j q) (eq-eqb e b (c q))
  | no q ↦ rw (ne_eqb (suc i) j q) (le-leb e b a)
]

and4 : (a b c d : Bool) → a ≡ true → b ≡ true → c ≡ true → d ≡ true → (a && (b && (c && d))) ≡ true
and4 a b c d p q r t = rw (p, q, r, t)

module _ {C : ℕ} {m : Message} {s : ℕ} {g : ℕ → Bool} (slot : Slot) {store ledger : List ℕ} (h : Holds C m s g (unturned slot) store ledger)
    (k : ℕ) (k< : k < parts m) (room : s * C + C ≤ length store) where
  abbrev f : Fragment
  f = piece C m k

  number : f.number ≡ k
  number = h.cut.its-number k k<

  -- it agrees with every other fragment that is held
  agrees-ok : (j : ℕ) → j < parts m → g j ≡ true → j ≢ k → agrees ledger s f j ≡ true
  unfolding agrees
  agrees-ok j b e n = elim (dec_le j k) [
    | yes q ↦ rw (number, lt-ltb j k (omega arith), h.off j b e, h.len j b e)
        (in_order j ((piece C m j).offset + length (piece C m j).bytes) k f.offset (piece-before h.cut j k (omega arith) k<)
        (λ z. piece-next h.cut j (omega arith) ∙ ap (λ (x : ℕ). (piece C m x).offset) z))
    | no q ↦ rw (number, le-ltb j k (omega arith), h.off j b e)
        (in_order k (f.offset + length f.bytes) j (piece C m j).offset (piece-before h.cut k j (omega arith) b)
        (λ z. piece-next h.cut k (omega arith) ∙ ap (λ (x : ℕ). (piece C m x).offset) z))
  ]

  stored-piece : g k ≡ true → take (length f.bytes) (drop (place_of C s f) store) ≡ f.bytes
  stored-piece e =
      let l : length (take (length f.bytes) (drop (place_of C s f) store)) ≡ length f.bytes =
      length-take-le (length f.bytes) (drop (place_of C s f) store)
      (omega (arith, length-drop (place_of C s f) store, payload-fits h.cut, piece-end h.cut k k<)) in
      ext_get_or 0 (take (length f.bytes) (drop (place_of C s f) store)) f.bytes l (λ x i.
      get_or-take (length f.bytes) (drop (place_of C s f) store) x 0 (omega arith)
      ∙ get_or-drop (place_of C s f) store x 0
      ∙ ap (λ (y : ℕ). get_or store y 0) (add_assoc (s * C) f.offset x)
      ∙ h.bytes k x k< e (omega arith))

  name-ok : g k ≡ true → pick (eqb f.number 0) (same slot.name (padded f.name)) true ≡ true
  name-ok e = elim (ℕ_discrete k 0) [
    | yes q ↦
        let its : f.name ≡ m.name = ap (λ (x : ℕ). (piece C m x).name) q ∙ h.cut.its-name in
        let a : eqb f.number 0 ≡ true = eq-eqb f.number 0 (number ∙ q) in
        let b : slot.name ≡ padded m.name = h.its-name (rw q at e) in
        ap (λ (t : Bool). pick t (same slot.name (padded f.name)) true) a
        ∙ ap (λ (x : List ℕ). same x (padded f.name)) b
        ∙ ap (λ (x : List ℕ). same (padded m.name) (padded x)) its
        ∙ same_refl (padded m.name)
    | no q ↦ ap (λ (t : Bool). pick t (same slot.name (padded f.name)) true) (ne_eqb f.number 0 (λ z. q (sym number ∙ z)))
  ]

  same_ok : g k ≡ true → same_fragment_lem C store ledger s slot f ≡ true
  unfolding same_fragment_lem
  same_ok e =
      let a : eqb (offset_of ledger s f.number) f.offset ≡ true = eq-eqb _ _ (ap (offset_of ledger s) number ∙ h.off k k< e) in
      let b : eqb (length_of ledger s f.number) (length f.bytes) ≡ true = eq-eqb _ _ (ap (length_of ledger s) number ∙ h.len k k< e) in
      let c : same (take (length f.bytes) (drop (place_of C s f) store)) f.bytes ≡ true =
      ap (λ (x : List ℕ). same x f.bytes) (stored-piece e) ∙ same_refl f.bytes in
      and4 _ _ _ _ a b c (name-ok e)

  same-message : same_message slot f ≡ true
  same-message = and-of (eqb f.size slot.size) (eqb f.count slot.count)
      (eq-eqb _ _ (h.cut.its-size k k< ∙ sym h.its-size)) (eq-eqb _ _ (h.cut.its-count k k< ∙ sym h.its-count))

  held-here : is_held slot.held f.number ≡ g k
  held-here = ap (is_held slot.held) number ∙ h.bits k k<

  all-agree : g k ≡ false → agrees_with_all ledger s slot f ≡ true
  all-agree e = all_of slot.count (λ j. not (is_held slot.held j) || agrees ledger s f j) (λ j b.
      let b' : j < parts m = rw h.its-count at b in
      elim (either (g j)) [
        | inl q ↦ rw (h.bits j b' ∙ q) (agrees-ok j b' q (λ z. never (rw z at q) e))
        | inr q ↦ rw (h.bits j b' ∙ q)
      ])

  -- held already: a repeat
  pub arrives-again : g k ≡ true → step3 C store ledger s slot f ≡ again
  arrives-again e = step3-again C store ledger s slot f same-message (held-here ∙ e) (same_ok e)

  -- new: it joins
  pub arrives-new : g k ≡ false → step3 C store ledger s slot f ≡ join s f
  arrives-new e = step3-join C store ledger s slot f same-message (held-here ∙ e) (all-agree e)

-- ---- fragment k is stored

module _ {C : ℕ} {m : Message} {s : ℕ} {g : ℕ → Bool} (slot : Slot) {store ledger : List ℕ} (h : Holds C m s g (unturned slot) store ledger)
    (k : ℕ) (k< : k < parts m) (s< : s < slot_count) (room : s * C + C ≤ length store) (long : length ledger ≡ ledger_length)
    (g' : ℕ → Bool) (plus : (j : ℕ) → g' j ≡ (eqb k j || g j)) where
  abbrev fr : Fragment
  fr = piece C m k

  number' : fr.number ≡ k
  number' = h.cut.its-number k k<

  few : fr.number < max_fragments
  few = omega (arith, number', few-parts h.cut)

  now : (j : ℕ) → j ≡ k → g' j ≡ true
  now j e = plus j ∙ or_yes (eqb k j) (g j) (eq-eqb k j (sym e))

  then' : (j : ℕ) → j ≢ k → g' j ≡ g j
  then' j n = plus j ∙ or-not (eqb k j) (g j) (ne_eqb k j (λ e. n (sym e)))

  put-bits : (j : ℕ) → j < parts m → is_held (hold slot.held fr.number) j ≡ g' j
  put-bits j b = elim (ℕ_discrete j k) [
    | yes e ↦ ap (is_held (hold slot.held fr.number)) (e ∙ sym number') ∙ hold-same slot.held fr.number few h.words ∙ sym (now j e)
    | no e ↦ hold-other slot.held fr.number j (λ z. e (z ∙ number')) ∙ h.bits j b ∙ sym (then' j e)
  ]

  put-name : g' 0 ≡ true → pick (eqb fr.number 0) (padded fr.name) slot.name ≡ padded m.name
  put-name e = elim (ℕ_discrete k 0) [
    | yes q ↦
        ap (λ (t : Bool). pick t (padded fr.name) slot.name) (eq-eqb fr.number 0 (number' ∙ q))
        ∙ ap padded (ap (λ (x : ℕ). (piece C m x).name) q ∙ h.cut.its-name)
    | no q ↦
        ap (λ (t : Bool). pick t (padded fr.name) slot.name) (ne_eqb fr.number 0 (λ z. q (sym number' ∙ z)))
        ∙ h.its-name (sym (then' 0 (λ z. q (sym z))) ∙ e)
  ]

  other_row : (j : ℕ) → j < parts m → j ≢ k → row s j ≢ row s fr.number
  other_row j b n = row_apart s s j fr.number (omega (arith, few-parts h.cut)) few (λ z e. n (e ∙ number'))

  put-off : (j : ℕ) → j < parts m → g' j ≡ true → offset_of (ledger_with ledger s fr) s j ≡ (piece C m j).offset
  put-off j b e = elim (ℕ_discrete j k) [
    | yes q ↦
        ap (offset_of (ledger_with ledger s fr) s) (q ∙ sym number')
        ∙ offset-own ledger s fr long s< few ∙ ap (λ (x : ℕ). (piece C m x).offset) (sym q)
    | no q ↦ offset-other ledger s fr s j (other_row j b q) ∙ h.off j b (sym (then' j q) ∙ e)
  ]

  put-len : (j : ℕ) → j < parts m → g' j ≡ true → length_of (ledger_with ledger s fr) s j ≡ length (piece C m j).bytes
  put-len j b e = elim (ℕ_discrete j k) [
    | yes q ↦
        ap (length_of (ledger_with ledger s fr) s) (q ∙ sym number')
        ∙ length-own ledger s fr long s< few ∙ ap (λ (x : ℕ). length (piece C m x).bytes) (sym q)
    | no q ↦ length-other ledger s fr s j (other_row j b q) ∙ h.len j b (sym (then' j q) ∙ e)
  ]

  inside : s * C + fr.offset + length fr.bytes ≤ length store
  inside = omega (arith, payload-fits h.cut, piece-end h.cut k k<)

  put-bytes : (j x : ℕ) → j < parts m → g' j ≡ true → x < length (piece C m j).bytes
      → get_or (store_with C store s fr) (s * C + ((piece C m j).offset + x)) 0 ≡ get_or (piece C m j).bytes x 0
  put-bytes j x b e i = elim (ℕ_discrete j k) [
    | yes q ↦ subst (λ (y : ℕ). get_or (store_with C store s fr) (s * C + ((piece C m y).offset + x)) 0 ≡ get_or (piece C m y).bytes x 0) (sym q)
        (ap (λ (y : ℕ). get_or (store_with C store s fr) y 0) (sym (add_assoc (s * C) fr.offset x))
        ∙ write_in store (place_of C s fr) fr.bytes inside x (subst (λ (y : ℕ). x < length (piece C m y).bytes) q i))
    | no q ↦
        write-out store (place_of C s fr) fr.bytes (s * C + ((piece C m j).offset + x)) (λ u v. elim (dec_le j k) [
          | yes w ↦ let y = piece-before h.cut j k (omega arith) k< in omega arith
          | no w ↦ let y = piece-before h.cut k j (omega arith) b in omega arith
        ])
        ∙ h.bytes j x b (sym (then' j q) ∙ e) i
  ]

  pub holds-put : Holds C m s g' (unturned (filled slot fr)) (store_with C store s fr) (ledger_with ledger s fr)
  unfolding filled
  holds-put = record {
    cut = h.cut;
    its-key = h.its-key;
    its-size = h.its-size;
    its-count = h.its-count;
    words = hold-length slot.held fr.number ∙ h.words;
    bits = put-bits;
    its-name = put-name;
    off = put-off;
    len = put-len;
    bytes = put-bytes;
  }
