-- The packet by its cases, and what is known of one that is given. Assumes nothing.
use Rattle.wire.proofs.Basics.{◌∙◌, sym, ◌≡◌, ap, refl, ℕ, ◌≤◌, ◌<◌, List, true, false, Bool, ◌||◌, not, some, none, Option, length, drop, eqb, ltb, eq-eqb, le-ltb, ne_eqb, lt-ltb, eqb-true}
use Rattle.wire.proofs.Basics.{ltb-false, not-false, arith}
use Rattle.wire.specs.Choice.{pick}
use Rattle.wire.proofs.Choices.{or_l, or_r}
use Rattle.moss.specs.Limits.{head_length, max_packet}
use Rattle.moss.specs.Packet.{gives, refuses, Packet, length_in, session_in, sequence_in, kind_in, known_kind, carried, held, packet_of}

module _ (b : List ℕ) where
  pub packet-short : length b < head_length → packet_of b ≡ refuses 50
  unfolding packet_of
  packet-short h = rw (lt-ltb (length b) head_length h)

  module _ (whole : head_length ≤ length b) where
    pub packet-wrong : (length_in b ≡ length b → ⊥) → packet_of b ≡ refuses 51
    unfolding packet_of
    packet-wrong h = rw (le-ltb (length b) head_length whole, ne_eqb (length_in b) (length b) h)

    module _ (true-length : length_in b ≡ length b) where
      pub packet-long : max_packet < length b → packet_of b ≡ refuses 51
      unfolding packet_of
      packet-long h = rw (le-ltb (length b) head_length whole, eq-eqb (length_in b) (length b) true-length, lt-ltb max_packet (length b) h)

      module _ (fits : length b ≤ max_packet) where
        pub packet-type : known_kind (kind_in b) ≡ false → packet_of b ≡ refuses 52
        unfolding packet_of
        packet-type h =
            rw (le-ltb (length b) head_length whole, eq-eqb (length_in b) (length b) true-length, le-ltb max_packet (length b) fits, h)

        pub packet-held : known_kind (kind_in b) ≡ true → packet_of b ≡ held b (carried (kind_in b) (drop head_length b))
        unfolding packet_of
        packet-held h =
            rw (le-ltb (length b) head_length whole, eq-eqb (length_in b) (length b) true-length, le-ltb max_packet (length b) fits, h)

-- a packet that is given
pub record Good (b : List ℕ) (p : Packet) : Type 0 where
  pub whole : head_length ≤ length b
  pub true-length : length_in b ≡ length b
  pub fits : length b ≤ max_packet
  pub known : known_kind (kind_in b) ≡ true
  pub session : p.session ≡ session_in b
  pub sequence : p.sequence ≡ sequence_in b
  pub kind : p.kind ≡ kind_in b
  pub carries : carried (kind_in b) (drop head_length b) ≡ some p.messages

module _ (b : List ℕ) (p : Packet) where
  from-held : (o : Option (List (List ℕ))) → head_length ≤ length b → length_in b ≡ length b → length b ≤ max_packet → known_kind (kind_in b) ≡ true
      → carried (kind_in b) (drop head_length b) ≡ o → held b o ≡ gives p → Good b p
  from-held none w l f k o e = absurd (let z : ◌≡◌ {A = ℕ} 0 1 = cc in omega arith)
  from-held (some ms) w l f k o e =
      let q : record { session = session_in b; sequence = sequence_in b; kind = kind_in b; messages = ms } ≡ p = cc in
      record {
        whole = w;
        true-length = l;
        fits = f;
        known = k;
        session = sym (ap (λ (x : Packet). x.session) q);
        sequence = sym (ap (λ (x : Packet). x.sequence) q);
        kind = sym (ap (λ (x : Packet). x.kind) q);
        carries = o ∙ ap (λ (x : Packet). some x.messages) q;
      }

  from-type : (t : Bool) → head_length ≤ length b → length_in b ≡ length b → length b ≤ max_packet → known_kind (kind_in b) ≡ t
      → pick t (held b (carried (kind_in b) (drop head_length b))) (refuses 52) ≡ gives p → Good b p
  from-type true w l f k e = from-held (carried (kind_in b) (drop head_length b)) w l f k refl e
  from-type false w l f k e = absurd (let z : ◌≡◌ {A = ℕ} 0 1 = cc in omega arith)

  from-length : (t : Bool) → head_length ≤ length b → (not (eqb (length_in b) (length b)) || ltb max_packet (length b)) ≡ t
      → pick t (refuses 51) (pick (known_kind (kind_in b)) (held b (carried (kind_in b) (drop head_length b))) (refuses 52)) ≡ gives p → Good b p
  from-length true w h e = absurd (let z : ◌≡◌ {A = ℕ} 0 1 = cc in omega arith)
  from-length false w h e =
      let l = eqb-true (length_in b) (length b) (not-false (eqb (length_in b) (length b)) (or_l (not (eqb (length_in b) (length b))) (ltb max_packet (length b)) h)) in
      let f = ltb-false max_packet (length b) (or_r (not (eqb (length_in b) (length b))) (ltb max_packet (length b)) h) in
      from-type (known_kind (kind_in b)) w l f refl e

  from-short : (t : Bool) → ltb (length b) head_length ≡ t
      → pick t (refuses 50)
      (pick (not (eqb (length_in b) (length b)) || ltb max_packet (length b)) (refuses 51)
      (pick (known_kind (kind_in b)) (held b (carried (kind_in b) (drop head_length b))) (refuses 52)))
      ≡ gives p
      → Good b p
  from-short true h e = absurd (let z : ◌≡◌ {A = ℕ} 0 1 = cc in omega arith)
  from-short false h e = from-length (not (eqb (length_in b) (length b)) || ltb max_packet (length b)) (ltb-false (length b) head_length h) refl e

  pub packet-good : packet_of b ≡ gives p → Good b p
  unfolding packet_of
  packet-good e = from-short (ltb (length b) head_length) refl e
