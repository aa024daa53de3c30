-- ONE WATCH FOR EACH SENDER. Assumes nothing.
use Rattle.wire.proofs.Basics.{◌∙◌, sym, ◌≡◌, ap, refl, subst, ℕ, ◌≤◌, ◌+◌, ◌<◌, suc, List, [], ◌∷◌, ◌++◌, true, false, Bool, inl, inr, ◌≢◌, some, none, Option, length, get_or, take, set, length-set}
use Rattle.wire.proofs.Basics.{length-take-le, get_or-set_other, get_or-take, get_or-set_same, eqb, ltb, eq-eqb, le-ltb, ne_eqb, lt-ltb, ℕ_discrete, add-one, arith}
use native.Mathlib.Decide.{dec_lt}
use lib.Seq.{set-get_or, take-suc-set}
use Rattle.wire.specs.Choice.{pick}
use Rattle.wire.proofs.Choices.{either}
use Rattle.watch.specs.declared.Watch.{Watch}
use Rattle.watch.specs.Limits.{max_senders}
use Rattle.differences.specs.Noted.{Noted, first, refused, moves}
use Rattle.differences.specs.Difference.{difference, told}
use Rattle.watch.specs.Senders.{place, sender_place}
use Rattle.watch.specs.Watching.{asked, after}
use Rattle.watch.specs.Runs.{answers}
use Rattle.watch.specs.Worked.{Come, noted}
use Rattle.watch.proofs.Places.{place-le, place_at_lem, place-new}
use Rattle.watch.proofs.WatchCases.{asked-known, asked-new, asked-full, moved-known, moved_new, after-moves, after-stays}
use Rattle.watch_laws.specs.EachSender.{Sound, last_of, OthersStay, OwnMoves, numbers_of, noted_of, is_refused, NoneRefused, OneForEach}

-- ---- a sender's place, with another at the end of the list

place-more-by : (t : Bool) (n m k : ℕ) → (n < m → k ≡ n) → pick t 0 (suc n) < suc m → pick t 0 (suc k) ≡ pick t 0 (suc n)
place-more-by true n m k f h = refl
place-more-by false n m k f h = ap suc (f (omega arith))

place-more : (sender other : ℕ) (l : List ℕ) → place other l < length l → place other (l ++ sender ∷ []) ≡ place other l
place-more sender other [] h = absurd (let z : ⊥ = omega arith in z)
place-more sender other (s ∷ l) h = place-more-by (eqb s other) (place other l) (length l) (place other (l ++ sender ∷ [])) (place-more sender other l) h

place-none-by : (t : Bool) (n m k : ℕ) → (m ≤ n → k ≡ suc m) → suc m ≤ pick t 0 (suc n) → pick t 0 (suc k) ≡ suc (suc m)
place-none-by true n m k f h = absurd (let z : ⊥ = omega arith in z)
place-none-by false n m k f h = ap suc (f (omega arith))

place_none : (sender other : ℕ) (l : List ℕ) → other ≢ sender → length l ≤ place other l → place other (l ++ sender ∷ []) ≡ suc (length l)
place_none sender other [] d h = rw (ne_eqb sender other (λ e. d (sym e)))
place_none sender other (s ∷ l) d h = place-none-by (eqb s other) (place other l) (length l) (place other (l ++ sender ∷ [])) (place_none sender other l d) h

-- ---- what a call does: it leaves the watch, sets the number of a sender that has a place, or gives a new one the next place

abbrev at_known : Watch → ℕ → ℕ → Watch
at_known w sender number = record { senders = w.senders; lasts = set w.lasts (sender_place w sender) number; count = w.count }

abbrev at_new : Watch → ℕ → ℕ → Watch
at_new w sender number = record { senders = set w.senders w.count sender; lasts = set w.lasts w.count number; count = w.count + 1 }

data Course (w : Watch) (sender number : ℕ) : Type 0 where
  stays : moves (asked w sender number) ≡ false → after w sender number ≡ w → Course w sender number
  known : moves (asked w sender number) ≡ true → sender_place w sender < w.count → after w sender number ≡ at_known w sender number → Course w sender number
  new : moves (asked w sender number) ≡ true → sender_place w sender ≡ w.count → w.count < max_senders → after w sender number ≡ at_new w sender number → Course w sender number

module _ (w : Watch) (s : Sound w) where
  front : List ℕ
  front = take w.count w.senders

  long : length (take w.count w.senders) ≡ w.count
  long = length-take-le w.count w.senders (omega (arith, s.few, s.whole.senders))

  -- a sender that has a place stands there
  stands : (sender : ℕ) → sender_place w sender < w.count → get_or w.senders (sender_place w sender) 0 ≡ sender
  stands sender h = sym (get_or-take w.count w.senders (sender_place w sender) 0 h) ∙ place_at_lem sender (take w.count w.senders) (omega (arith, long))

  within : (sender : ℕ) → sender_place w sender ≤ w.count
  within sender = (let p = place-le sender (take w.count w.senders) in omega (arith, long))

  course : (sender number : ℕ) → Course w sender number
  course sender number = elim (either (moves (asked w sender number))) [
    | inr e ↦ stays e (sym (after-stays w sender number (asked w sender number) refl e))
    | inl e ↦ elim (dec_lt (sender_place w sender) w.count) [
      | yes h ↦
          known e h
          (sym (after-moves w sender number (asked w sender number) refl e)
          ∙ (moved-known w sender number (sender_place w sender) s.few refl (omega (arith, s.few)) h
          ∙ ap (λ (l : List ℕ). record { senders = l; lasts = set w.lasts (sender_place w sender) number; count = w.count })
          (ap (set w.senders (sender_place w sender)) (sym (stands sender h)) ∙ set-get_or w.senders (sender_place w sender) 0)))
      | no h ↦
          let q : sender_place w sender ≡ w.count = omega (arith, within sender) in
          elim (dec_lt w.count max_senders) [
            | yes r ↦
                new e q r
                (sym (after-moves w sender number (asked w sender number) refl e) ∙ moved_new w sender number w.count s.few (sym q) r (omega arith))
            | no r ↦
                let z : asked w sender number ≡ refused 14 = asked-full w sender number w.count s.few (sym q) (omega arith) (omega arith) in
                absurd (let y : false ≡ true = sym (ap moves z) ∙ e in let x : ◌≡◌ {A = ℕ} 0 1 = cc in let u : ⊥ = omega arith in u)
          ]
    ]
  ]

  -- the senders with a new one behind them
  front-new : (sender : ℕ) → w.count < max_senders → take (w.count + 1) (set w.senders w.count sender) ≡ take w.count w.senders ++ sender ∷ []
  front-new sender r = ap (λ (k : ℕ). take k (set w.senders w.count sender)) (add-one w.count) ∙ take-suc-set w.senders w.count sender (omega (arith, s.whole.senders))

  last-known : (sender : ℕ) → sender_place w sender < w.count → last_of w sender ≡ some (get_or w.lasts (sender_place w sender) 0)
  last-known sender h = rw (lt-ltb (sender_place w sender) w.count h)

  last_none : (sender : ℕ) → w.count ≤ sender_place w sender → last_of w sender ≡ none
  last_none sender h = rw (le-ltb (sender_place w sender) w.count h)

  -- ---- the others

  other-known : (sender other number : ℕ) → other ≢ sender → sender_place w sender < w.count → last_of (at_known w sender number) other ≡ last_of w other
  other-known sender other number d h = elim (dec_lt (sender_place w other) w.count) [
    | yes k ↦
        ap (λ (x : ℕ). pick (ltb (sender_place w other) w.count) (some x) none)
        (get_or-set_other w.lasts (sender_place w sender) (sender_place w other) number 0
        (λ q. d (sym (stands other k) ∙ (ap (λ (i : ℕ). get_or w.senders i 0) q ∙ stands sender h))))
    | no k ↦ rw (le-ltb (sender_place w other) w.count (omega arith))
  ]

  other-new : (sender other number : ℕ) → other ≢ sender → w.count < max_senders → last_of (at_new w sender number) other ≡ last_of w other
  other-new sender other number d r = elim (dec_lt (sender_place w other) w.count) [
    | yes k ↦
        let p : sender_place (at_new w sender number) other ≡ sender_place w other =
        ap (place other) (front-new sender r) ∙ place-more sender other (take w.count w.senders) (omega (arith, long)) in
        ap (λ (i : ℕ). pick (ltb i (w.count + 1)) (some (get_or (set w.lasts w.count number) i 0)) none) p
        ∙ (ap (λ (b : Bool). pick b (some (get_or (set w.lasts w.count number) (sender_place w other) 0)) none) (lt-ltb (sender_place w other) (w.count + 1) (omega arith))
        ∙ (ap some (get_or-set_other w.lasts w.count (sender_place w other) number 0 (λ q. let z : ⊥ = omega arith in z)) ∙ sym (last-known other k)))
    | no k ↦
        let p : sender_place (at_new w sender number) other ≡ suc (length (take w.count w.senders)) =
        ap (place other) (front-new sender r) ∙ place_none sender other (take w.count w.senders) d (omega (arith, long)) in
        ap (λ (i : ℕ). pick (ltb i (w.count + 1)) (some (get_or (set w.lasts w.count number) i 0)) none) p
        ∙ (ap (λ (b : Bool). pick b (some (get_or (set w.lasts w.count number) (suc (length (take w.count w.senders))) 0)) none) (le-ltb (suc (length (take w.count w.senders))) (w.count + 1) (omega (arith, long)))
        ∙ sym (last_none other (omega arith)))
  ]

  -- ---- its own

  own-known : (sender number : ℕ) → sender_place w sender < w.count → last_of (at_known w sender number) sender ≡ some number
  own-known sender number h =
      ap (λ (b : Bool). pick b (some (get_or (set w.lasts (sender_place w sender) number) (sender_place w sender) 0)) none) (lt-ltb (sender_place w sender) w.count h)
      ∙ ap some (get_or-set_same w.lasts (sender_place w sender) number 0 (omega (arith, s.few, s.whole.lasts)))

  own_new : (sender number : ℕ) → sender_place w sender ≡ w.count → w.count < max_senders → last_of (at_new w sender number) sender ≡ some number
  own_new sender number q r =
      let p : sender_place (at_new w sender number) sender ≡ w.count =
      ap (place sender) (front-new sender r) ∙ (place-new sender (take w.count w.senders) (q ∙ sym long) ∙ long) in
      ap (λ (i : ℕ). pick (ltb i (w.count + 1)) (some (get_or (set w.lasts w.count number) i 0)) none) p
      ∙ (ap (λ (b : Bool). pick b (some (get_or (set w.lasts w.count number) w.count 0)) none) (lt-ltb w.count (w.count + 1) (omega arith))
      ∙ ap some (get_or-set_same w.lasts w.count number 0 (omega (arith, s.whole.lasts))))

pub others-stay : OthersStay
others-stay w s sender other number d = go (course w s sender number)
  where
    go : Course w sender number → last_of (after w sender number) other ≡ last_of w other
    go (stays e q) = ap (λ (v : Watch). last_of v other) q
    go (known e h q) = ap (λ (v : Watch). last_of v other) q ∙ other-known w s sender other number d h
    go (new e p r q) = ap (λ (v : Watch). last_of v other) q ∙ other-new w s sender other number d r

pub own-moves : OwnMoves
own-moves w s sender number = go (course w s sender number)
  where
    go : Course w sender number → last_of (after w sender number) sender ≡ pick (moves (asked w sender number)) (some number) (last_of w sender)
    go (stays e q) = ap (λ (v : Watch). last_of v sender) q ∙ (rw e)
    go (known e h q) = ap (λ (v : Watch). last_of v sender) q ∙ (own-known w s sender number h ∙ (rw e))
    go (new e p r q) = ap (λ (v : Watch). last_of v sender) q ∙ (own_new w s sender number p r ∙ (rw e))

-- ---- as if it were the only one

after-sound : (w : Watch) → Sound w → (sender number : ℕ) → Sound (after w sender number)
after-sound w s sender number = go (course w s sender number)
  where
    go : Course w sender number → Sound (after w sender number)
    go (stays e q) = subst Sound (sym q) s
    go (known e h q) =
        subst Sound (sym q) (record { whole = record { senders = s.whole.senders; lasts = length-set w.lasts (sender_place w sender) number ∙ s.whole.lasts }; few = s.few })
    go (new e p r q) =
        subst Sound (sym q)
        (record {
          whole = record { senders = length-set w.senders w.count sender ∙ s.whole.senders; lasts = length-set w.lasts w.count number ∙ s.whole.lasts };
          few = omega arith;
        })

-- how many senders there are then: one more where a new one moves
abbrev count_after : Bool → Option ℕ → ℕ → ℕ
count_after false last n = n
count_after true none n = n + 1
count_after true (some x) n = n

count_grows : (b : Bool) (last : Option ℕ) (n m : ℕ) → n ≤ m → (n ≤ count_after b last m) × (count_after b last n ≤ count_after b last m)
count_grows false last n m h = (h, h)
count_grows true none n m h = (omega arith, omega arith)
count_grows true (some x) n m h = (h, h)

count-after : (w : Watch) → Sound w → (sender number : ℕ) → (after w sender number).count ≡ count_after (moves (asked w sender number)) (last_of w sender) w.count
count-after w s sender number = go (course w s sender number)
  where
    go : Course w sender number → (after w sender number).count ≡ count_after (moves (asked w sender number)) (last_of w sender) w.count
    go (stays e q) = ap (λ (v : Watch). v.count) q ∙ ap (λ (b : Bool). count_after b (last_of w sender) w.count) (sym e)
    go (known e h q) =
        ap (λ (v : Watch). v.count) q
        ∙ ((λ i. count_after true (sym (last-known w s sender h) i) w.count) ∙ ap (λ (b : Bool). count_after b (last_of w sender) w.count) (sym e))
    go (new e p r q) =
        ap (λ (v : Watch). v.count) q
        ∙ ((λ i. count_after true (sym (last_none w s sender (omega arith)) i) w.count) ∙ ap (λ (b : Bool). count_after b (last_of w sender) w.count) (sym e))

-- what is answered goes by the sender's last number, and for a new one by whether there is room
abbrev answer_by : Option ℕ → Bool → ℕ → Noted
answer_by (some x) room number = told number (difference number x)
answer_by none true number = first
answer_by none false number = refused 14

answer-by : (w : Watch) → Sound w → (sender number : ℕ) → asked w sender number ≡ answer_by (last_of w sender) (ltb w.count max_senders) number
answer-by w s sender number = elim (dec_lt (sender_place w sender) w.count) [
  | yes h ↦
      asked-known w sender number (sender_place w sender) s.few refl h
      ∙ ap (λ (o : Option ℕ). answer_by o (ltb w.count max_senders) number) (sym (last-known w s sender h))
  | no h ↦
      let q : sender_place w sender ≡ w.count = omega (arith, within w s sender) in
      let n : last_of w sender ≡ none = last_none w s sender (omega arith) in
      elim (dec_lt w.count max_senders) [
        | yes r ↦ asked-new w sender number w.count s.few (sym q) (omega arith) r ∙ sym (λ i. answer_by (n i) (lt-ltb w.count max_senders r i) number)
        | no r ↦ asked-full w sender number w.count s.few (sym q) (omega arith) (omega arith) ∙ sym (λ i. answer_by (n i) (le-ltb w.count max_senders (omega arith) i) number)
      ]
]

-- two watches in which a sender stands alike, the second with no more senders
record Alike (sender : ℕ) (w v : Watch) : Type 0 where
  sound : Sound w
  sound_too : Sound v
  last : last_of w sender ≡ last_of v sender
  fewer : v.count ≤ w.count

same_by : (last : Option ℕ) (a b : Bool) (number : ℕ) → (a ≡ true → b ≡ true) → is_refused (answer_by last a number) ≡ false → answer_by last b number ≡ answer_by last a number
same_by (some x) a b number f e = refl
same_by none true b number f e = ap (λ (c : Bool). answer_by none c number) (f refl)
same_by none false b number f e = absurd (let z : ◌≡◌ {A = ℕ} 0 1 = cc in let y : ⊥ = omega arith in y)

module _ (sender : ℕ) (w v : Watch) (k : Alike sender w v) where
  room_too : ltb w.count max_senders ≡ true → ltb v.count max_senders ≡ true
  room_too e = elim (dec_lt w.count max_senders) [
    | yes h ↦ lt-ltb v.count max_senders (omega (arith, k.fewer))
    | no h ↦ absurd (let y : false ≡ true = sym (le-ltb w.count max_senders (omega arith)) ∙ e in let x : ◌≡◌ {A = ℕ} 0 1 = cc in let u : ⊥ = omega arith in u)
  ]

  same_answer : (number : ℕ) → is_refused (asked w sender number) ≡ false → asked v sender number ≡ asked w sender number
  same_answer number e =
      answer-by v k.sound_too sender number
      ∙ (ap (λ (o : Option ℕ). answer_by o (ltb v.count max_senders) number) (sym k.last)
      ∙ (same_by (last_of w sender) (ltb w.count max_senders) (ltb v.count max_senders) number room_too (sym (ap is_refused (answer-by w k.sound sender number)) ∙ e)
      ∙ sym (answer-by w k.sound sender number)))

  alike-own : (number : ℕ) → is_refused (asked w sender number) ≡ false → Alike sender (after w sender number) (after v sender number)
  alike-own number e =
      let a : asked v sender number ≡ asked w sender number = same_answer number e in
      record {
        sound = after-sound w k.sound sender number;
        sound_too = after-sound v k.sound_too sender number;
        last =
            own-moves w k.sound sender number
            ∙ ((λ i. pick {X = Option ℕ} (moves (sym a i)) (some number) (k.last i)) ∙ sym (own-moves v k.sound_too sender number));
        fewer =
            let c : (after v sender number).count ≡ count_after (moves (asked w sender number)) (last_of w sender) v.count =
            count-after v k.sound_too sender number ∙ (λ i. count_after (moves (a i)) (sym k.last i) v.count) in
            omega (arith, c, count-after w k.sound sender number, (count_grows (moves (asked w sender number)) (last_of w sender) v.count w.count k.fewer).1);
      }

  alike-other : (other number : ℕ) → sender ≢ other → Alike sender (after w other number) v
  alike-other other number d = record {
    sound = after-sound w k.sound other number;
    sound_too = k.sound_too;
    last = others-stay w k.sound other sender number d ∙ k.last;
    fewer = omega (arith, count-after w k.sound other number, (count_grows (moves (asked w other number)) (last_of w other) v.count w.count k.fewer).0);
  }

-- the numbers of others among them do not matter
as_alone : (sender : ℕ) (l : List Come) (w v : Watch) → Alike sender w v → NoneRefused (noted w l) → noted_of sender w l ≡ answers v sender (numbers_of sender l)
as_alone sender [] w v k n = refl
as_alone sender (c ∷ l) w v k n = elim (ℕ_discrete c.sender sender) [
  | yes e ↦
      let t : eqb c.sender sender ≡ true = eq-eqb c.sender sender e in
      let h : is_refused (asked w sender c.number) ≡ false = subst (λ (x : ℕ). is_refused (asked w x c.number) ≡ false) e n.0 in
      let r : NoneRefused (noted (after w sender c.number) l) = subst (λ (x : ℕ). NoneRefused (noted (after w x c.number) l)) e n.1 in
      (λ i. pick {X = List Noted} (t i) (asked w (e i) c.number ∷ []) [] ++ noted_of sender (after w (e i) c.number) l)
      ∙ ((λ i. sym (same_answer sender w v k c.number h) i ∷ as_alone sender l (after w sender c.number) (after v sender c.number) (alike-own sender w v k c.number h) r i)
      ∙ ap (λ (b : Bool). answers v sender (pick b (c.number ∷ []) [] ++ numbers_of sender l)) (sym t))
  | no e ↦
      let t : eqb c.sender sender ≡ false = ne_eqb c.sender sender e in
      ap (λ (b : Bool). pick b (asked w c.sender c.number ∷ []) [] ++ noted_of sender (after w c.sender c.number) l) t
      ∙ (as_alone sender l (after w c.sender c.number) v (alike-other sender w v k c.sender c.number (λ q. e (sym q))) n.1
      ∙ ap (λ (b : Bool). answers v sender (pick b (c.number ∷ []) [] ++ numbers_of sender l)) (sym t))
]

pub one_for-each : OneForEach
one_for-each w s sender l n = as_alone sender l w w (record { sound = s; sound_too = s; last = refl; fewer = omega arith }) n
