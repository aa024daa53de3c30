-- The edition, in edition 2 the limit, and the entries together determine the log, and the log determines them. Assumes nothing.
use Rattle.wire.proofs.Basics.{◌∙◌, sym, ◌≡◌, ap, refl, ℕ, ◌≤◌, ◌<◌, suc, zero, ◌^◌, List, [], ◌∷◌, ◌++◌, append_assoc, true, false, Bool, some, length, drop, take, length-append, take-append-drop}
use Rattle.wire.proofs.Basics.{length-take-le, take-append_seam, drop-append_seam, eqb, ltb, le-ltb, eqb-true, ltb-false, arith}
use Rattle.wire.specs.Bytes.{Bytes}
use Rattle.wire.specs.Choice.{pick}
use Rattle.wire.specs.Taken.{Taken, taken, refused}
use Rattle.varint.specs.Seven.{seven, seven_in}
use Rattle.varint.proofs.Sevens.{seven-back, back-seven, groups-some}
use Rattle.datagram.specs.Limits.{max_datagram, max_payload}
use Rattle.flight_log.specs.Editions.{Edition, edition1, edition2, first_byte, second_byte, Lawful, head_bytes, limited, limit_in, head_in, head_in1, edition_in}
use Rattle.flight_log.specs.Entries.{Entry, entry_of, Keeps, AllKeep, entry_bytes, body_of, log_of}
use Rattle.flight_log.specs.Listed.{datagram_in, length_in, tick_in, entry_in, Listed, whole, broken, after, more, one_more_lem, list_by, entries_after, entries_in}
use Rattle.flight_log.proofs.AfterEntry.{both, rest-bytes}

-- ---- an entry: what is written reads back

pub datagram-back : (s t : ℕ) (d rest : List ℕ) → length d ≤ max_datagram → datagram_in s t (length d) (d ++ rest) ≡ taken (entry_of s t d) rest
unfolding datagram_in
datagram-back s t d rest h =
    let l : length d ≤ length (d ++ rest) = rw length-append (omega arith) in
    rw (le-ltb max_datagram (length d) h, le-ltb (length (d ++ rest)) (length d) l, take-append_seam d rest, drop-append_seam d rest) refl

apart : (e : Entry) (rest : List ℕ) → entry_bytes e ++ rest ≡ seven e.sender ++ (seven e.tick ++ (seven (length e.datagram) ++ (e.datagram ++ rest)))
unfolding entry_bytes
apart e rest = simp append_assoc

pub entry-back : (e : Entry) → Keeps e → (rest : List ℕ) → entry_in (entry_bytes e ++ rest) ≡ taken e rest
unfolding entry_in tick_in length_in
entry-back e k rest =
    let short : length e.datagram < 2 ^ 64 = omega (arith, k.len) in
    rw (apart e rest, seven-back e.sender k.sender, seven-back e.tick k.tick, seven-back (length e.datagram) short)
    (datagram-back e.sender e.tick e.datagram rest k.len)

-- ---- an entry: what is read is what would be written

pub record Back (b : List ℕ) (e : Entry) (rest : List ℕ) : Type 0 where
  pub keeps : Keeps e
  pub wrote : entry_bytes e ++ rest ≡ b

record Lies (s t n : ℕ) (b : List ℕ) (e : Entry) (rest : List ℕ) : Type 0 where
  pub most : n ≤ max_datagram
  pub within : n ≤ length b
  pub is : e ≡ entry_of s t (take n b)
  pub left : rest ≡ drop n b

lies : (s t n : ℕ) (b : List ℕ) (e : Entry) (rest : List ℕ) → datagram_in s t n b ≡ taken e rest → Lies s t n b e rest
unfolding datagram_in
lies s t n b e rest q = by_most (ltb max_datagram n) refl (ltb (length b) n) refl q
  where
    by_most : (m : Bool) → ltb max_datagram n ≡ m → (w : Bool) → ltb (length b) n ≡ w
        → pick m (refused 42) (pick w (refused 43) (taken (entry_of s t (take n b)) (drop n b))) ≡ taken e rest → Lies s t n b e rest
    by_most true p w o r = absurd (let z : ◌≡◌ {A = ℕ} 0 1 = cc in omega arith)
    by_most false p true o r = absurd (let z : ◌≡◌ {A = ℕ} 0 1 = cc in omega arith)
    by_most false p false o r = record { most = ltb-false max_datagram n p; within = ltb-false (length b) n o; is = cc; left = cc }

made : (b : List ℕ) (s t n : ℕ) (x y z : List ℕ) (e : Entry) (rest : List ℕ) → s < 2 ^ 64 → t < 2 ^ 64
    → seven s ++ x ≡ b → seven t ++ y ≡ x → seven n ++ z ≡ y → Lies s t n z e rest → Back b e rest
unfolding entry_bytes
made b s t n x y z e rest hs ht p q r l =
    let size : length (take n z) ≡ n = length-take-le n z l.within in
    let all : take n z ++ drop n z ≡ z = take-append-drop n z in
    rw (l.is, l.left)
    (record {
      keeps = record { sender = hs; tick = ht; len = rw size l.most };
      wrote = rw size (simp append_assoc (rw (all, r, q, p) refl));
    })

pub back-entry : (b : List ℕ) → Bytes b → (e : Entry) (rest : List ℕ) → entry_in b ≡ taken e rest → Back b e rest
unfolding entry_in tick_in length_in
back-entry b h e rest q =
    let one = both (seven_in b) (λ s. tick_in s) e rest q in
    let s = one.value in
    let got₁ = back-seven b h s one.left one.first in
    let h₁ = rest-bytes (seven s) one.left b got₁.1 h in
    let two = both (seven_in one.left) (λ t. length_in s t) e rest one.second in
    let t = two.value in
    let got₂ = back-seven one.left h₁ t two.left two.first in
    let h₂ = rest-bytes (seven t) two.left one.left got₂.1 h₁ in
    let three = both (seven_in two.left) (λ n. datagram_in s t n) e rest two.second in
    let n = three.value in
    let got₃ = back-seven two.left h₂ n three.left three.first in
    let l = lies s t n three.left e rest three.second in
    made b s t n one.left two.left three.left e rest got₁.0 got₂.0 got₁.1 got₂.1 got₃.1 l

-- an entry takes a byte at least
pub entry-some : (e : Entry) → 1 ≤ length (entry_bytes e)
unfolding entry_bytes
entry-some e = simp length-append (omega (arith, groups-some 9 e.sender))

-- ---- the list

-- where bytes are left, an entry is taken from them
pub one_more : (rest : List ℕ → Listed) (c : List ℕ) → 1 ≤ length c → one_more_lem rest c ≡ more rest (entry_in c)
one_more rest [] h = absurd (let z : ⊥ = omega arith in z)
one_more rest (y ∷ c) h = refl

pub body_back : (k : ℕ) (es : List Entry) → AllKeep es → length (body_of es) ≤ k → list_by k (body_of es) ≡ whole es
unfolding body_of list_by
body_back zero [] a h = refl
body_back (suc k) [] a h = refl
body_back zero (e ∷ es) a h = absurd (let z : ⊥ = omega (arith, entry-some e, length-append (entry_bytes e) (body_of es)) in z)
body_back (suc k) (e ∷ es) a h =
    let l = length-append (entry_bytes e) (body_of es) in
    one_more (list_by k) (entry_bytes e ++ body_of es) (omega (arith, entry-some e))
    ∙ ap (more (list_by k)) (entry-back e a.0 (body_of es))
    ∙ ap (after e) (body_back k es a.1 (omega (arith, entry-some e)))

pub record ListBack (b : List ℕ) (es : List Entry) : Type 0 where
  pub keeps : AllKeep es
  pub wrote : body_of es ≡ b

pub back-body : (k : ℕ) (b : List ℕ) → Bytes b → length b ≤ k → (es : List Entry) → list_by k b ≡ whole es → ListBack b es
unfolding body_of list_by
back-body zero [] h l es e = let n : es ≡ [] = cc in rw n (record { keeps = tt; wrote = refl })
back-body zero (x ∷ b) h l es e = absurd (let z : ⊥ = omega arith in z)
back-body (suc k) [] h l es e = let n : es ≡ [] = cc in rw n (record { keeps = tt; wrote = refl })
back-body (suc k) (x ∷ b) h l es e = by-taken (λ c m. back-body k c) (entry_in (x ∷ b)) refl e
  where
    by-list : (d : Entry) (c : List ℕ) → Back (x ∷ b) d c → ((es : List Entry) → list_by k c ≡ whole es → ListBack c es) → (t : Listed) → list_by k c ≡ t → after d t ≡ whole es → ListBack (x ∷ b) es
    by-list d c back ih (broken ds n) p q = absurd (let z : ◌≡◌ {A = ℕ} 0 1 = cc in omega arith)
    by-list d c back ih (whole ds) p q =
        let i = ih ds p in
        let s : es ≡ d ∷ ds = cc in
        rw s (record { keeps = (back.keeps, i.keeps); wrote = rw i.wrote back.wrote })

    by-taken : ((c : List ℕ) → ℕ → Bytes c → length c ≤ k → (es : List Entry) → list_by k c ≡ whole es → ListBack c es)
        → (t : Taken Entry) → entry_in (x ∷ b) ≡ t → more (list_by k) t ≡ whole es → ListBack (x ∷ b) es
    by-taken ih (refused n) p q = absurd (let z : ◌≡◌ {A = ℕ} 0 1 = cc in omega arith)
    by-taken ih (taken d c) p q =
        let back = back-entry (x ∷ b) h d c p in
        let size = sym (length-append (entry_bytes d) c) ∙ ap length back.wrote in
        by-list d c back (ih c 0 (rest-bytes (entry_bytes d) c (x ∷ b) back.wrote h) (omega (arith, entry-some d))) (list_by k c) refl q

-- ---- the head: what is written reads back

pub limited-back : (limit : ℕ) → limit ≤ max_payload → (rest : List ℕ) → limited limit rest ≡ taken (edition2 limit) rest
unfolding limited
limited-back limit h rest = rw (le-ltb max_payload limit h) refl

pub head-back : (v : Edition) → Lawful v → (rest : List ℕ) → head_in (head_bytes v ++ rest) ≡ taken v rest
unfolding head_in limit_in
head-back edition1 h rest = refl
head-back (edition2 limit) h rest =
    let short : limit < 2 ^ 64 = omega arith in
    rw (seven-back limit short) (limited-back limit h rest)

-- "A program that knows only edition 1 answers 40"
pub old-reader : (limit : ℕ) (es : List Entry) → head_in1 (log_of (edition2 limit) es) ≡ refused 40
unfolding head_in1 log_of
old-reader limit es = refl

-- and reads edition 1 as ever
pub old-log : (es : List Entry) → head_in1 (log_of edition1 es) ≡ head_in (log_of edition1 es)
unfolding head_in1 head_in log_of
old-log es = refl

-- ---- the head: what is read is what would be written

pub record HeadBack (b : List ℕ) (v : Edition) (rest : List ℕ) : Type 0 where
  pub lawful : Lawful v
  pub wrote : head_bytes v ++ rest ≡ b

back-limited : (limit : ℕ) (b : List ℕ) (v : Edition) (rest : List ℕ) → limited limit b ≡ taken v rest → (limit ≤ max_payload) × ((v ≡ edition2 limit) × (rest ≡ b))
unfolding limited
back-limited limit b v rest q = by_most (ltb max_payload limit) refl q
  where
    by_most : (t : Bool) → ltb max_payload limit ≡ t → pick t (refused 45) (taken (edition2 limit) b) ≡ taken v rest → (limit ≤ max_payload) × ((v ≡ edition2 limit) × (rest ≡ b))
    by_most true p r = absurd (let z : ◌≡◌ {A = ℕ} 0 1 = cc in omega arith)
    by_most false p r = (ltb-false max_payload limit p, (cc, cc))

back-second : (limit : ℕ) (c b : List ℕ) (v : Edition) (rest : List ℕ) → seven limit ++ c ≡ b
    → (limit ≤ max_payload) × ((v ≡ edition2 limit) × (rest ≡ c)) → HeadBack (second_byte ∷ b) v rest
back-second limit c b v rest e l = rw (l.1.0, l.1.1) (record { lawful = l.0; wrote = ap (λ (r : List ℕ). second_byte ∷ r) e })

back_limit : (b : List ℕ) → Bytes b → (v : Edition) (rest : List ℕ) → limit_in b ≡ taken v rest → HeadBack (second_byte ∷ b) v rest
unfolding limit_in
back_limit b h v rest q =
    let one = both (seven_in b) limited v rest q in
    let got = back-seven b h one.value one.left one.first in
    let l = back-limited one.value one.left v rest one.second in
    back-second one.value one.left b v rest got.1 l

pub back_head : (b : List ℕ) → Bytes b → (v : Edition) (rest : List ℕ) → head_in b ≡ taken v rest → HeadBack b v rest
unfolding head_in
back_head [] h v rest q = absurd (let z : ◌≡◌ {A = ℕ} 0 1 = cc in omega arith)
back_head (x ∷ b) h v rest q = by_byte (eqb x first_byte) refl (eqb x second_byte) refl q
  where
    by_byte : (s : Bool) → eqb x first_byte ≡ s → (t : Bool) → eqb x second_byte ≡ t
        → pick s (taken edition1 b) (pick t (limit_in b) (refused 40)) ≡ taken v rest → HeadBack (x ∷ b) v rest
    by_byte false p false o r = absurd (let z : ◌≡◌ {A = ℕ} 0 1 = cc in omega arith)
    by_byte true p t o r =
        let w : v ≡ edition1 = cc in
        let l : rest ≡ b = cc in
        rw (w, l, eqb-true x first_byte p) (record { lawful = tt; wrote = refl })
    by_byte false p true o r = rw (eqb-true x second_byte o) (back_limit b (λ j. h (suc j)) v rest r)

-- ---- the log

-- a log's edition and its entries are read back
pub entries-of-log : (v : Edition) → Lawful v → (es : List Entry) → AllKeep es → (edition_in (log_of v es) ≡ some v) × (entries_in (log_of v es) ≡ whole es)
unfolding entries_in entries_after log_of
entries-of-log v l es a = rw (head-back v l (body_of es)) (refl, body_back (length (body_of es)) es a (omega arith))

-- of any bytes in which entries are read: their edition, and the log of it and the entries, which is these bytes
pub record LogBack (b : List ℕ) (es : List Entry) : Type 0 where
  pub edition : Edition
  pub is : edition_in b ≡ some edition
  pub lawful : Lawful edition
  pub keeps : AllKeep es
  pub wrote : log_of edition es ≡ b

pub log-of-entries : (b : List ℕ) → Bytes b → (es : List Entry) → entries_in b ≡ whole es → LogBack b es
unfolding entries_in entries_after log_of
log-of-entries b h es e = by-head (head_in b) refl e
  where
    by-head : (t : Taken Edition) → head_in b ≡ t → entries_after t ≡ whole es → LogBack b es
    by-head (refused n) p q = absurd (let z : ◌≡◌ {A = ℕ} 0 1 = cc in omega arith)
    by-head (taken v c) p q =
        let head = back_head b h v c p in
        let i = back-body (length c) c (rest-bytes (head_bytes v) c b head.wrote h) (omega arith) es q in
        record {
          edition = v;
          is = rw p refl;
          lawful = head.lawful;
          keeps = i.keeps;
          wrote = rw i.wrote head.wrote;
        }
