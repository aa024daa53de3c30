-- The law of a loop over records: the lines of those that were taken went out, and those of all that is left are still to come. Assumes nothing.
use Rattle.wire.proofs.Basics.{◌∙◌, sym, ◌≡◌, ap, refl, subst, ℕ, ◌≤◌, ◌+◌, ◌<◌, ◌-◌, suc, List, [], ◌++◌, append_assoc, false, Bool, length, drop, take, slice, arith}
use Rattle.wire.specs.Slices.{◌⇒◌}
use Rattle.stream.specs.declared.Kind.{Kind}
use Rattle.stream.specs.declared.Input.{Input}
use Rattle.stream.specs.declared.Ending.{Ending}
use Rattle.stream.specs.declared.Ending.TheVariants as ending
use Rattle.stream.specs.Records.{Next, Record, End, Cut, ended_as, head_of, unread, Took, Gives}
use Rattle.stream.proofs.Slices.{take-drop}
use Rattle.output.specs.declared.Output.{Output}
use Rattle.output.specs.Output.{closed, Pours, Finishes, Adds, IsClosed, Ends}
use Rattle.output.proofs.Adding.{ends_is, ends_then}
use Rattle.output.proofs.Sending.{pours-none, pours-then, pours-is, pours-stop, finishes-then, finishes-is, finishes-shut}
use Rattle.record_lines.specs.Streams.{Rec, first_of, many, records_in}
use Rattle.record_lines.specs.declared.Told.{Told}
use Rattle.record_lines.specs.Lines.{Says, lines_after, Tells, TellsTo, Reached}
use Rattle.record_lines.proofs.Streams.{records-none, records-more, records-cut, records-over}

-- the record whose body stands at a place of the buffer
abbrev pub seen : Kind → List ℕ → ℕ → ℕ → Rec
seen kind b at len = record { head = slice (at - head_of kind) at b; body = take len (drop at b) }

seen_first : {kind : Kind} {b c : List ℕ} {i left : Input} {at len : ℕ} (t : Took kind b i c at len left)
    → seen kind c at len ≡ first_of kind (length b) (unread b i ++ t.came)
seen_first {kind} {b} {c} {i} {left} {at} {len} t =
    let x : List ℕ = unread b i ++ t.came in
    λ j.
    record {
      head = t.head j;
      body = (take-drop at len c ∙ t.body ∙ ap (λ (k : ℕ). slice (head_of kind) (head_of kind + k) x) t.size) j;
    }

-- what is still to come behind n records, in a buffer of m bytes
abbrev rest : {S : Type 0} → Says S → Kind → ℕ → ℕ → S → List ℕ → List ℕ
rest p kind m n s x = lines_after p n s (records_in (many - n) kind m x)

module _ {S : Type 0} (p : Says S) (kind : Kind) (b₀ : List ℕ) (i₀ : Input) (s₀ : S) (out₀ : List ℕ) (at₀ : ℕ) where
  pub record Going (b : List ℕ) (i : Input) (s : S) (out : List ℕ) (at n : ℕ) : Type 0 where
    pub came : List ℕ
    pub text : List ℕ
    pub size : length b ≡ length b₀
    pub still : (more : List ℕ) → lines_after p 0 s₀ (records_in many kind (length b₀) (unread b₀ i₀ ++ (came ++ more))) ≡ text ++ rest p kind (length b₀) n s (unread b i ++ more)
    pub poured : Pours out₀ at₀ text out at

  pub going-none : Going b₀ i₀ s₀ out₀ at₀ 0
  going-none = record { came = []; text = []; size = refl; still = λ more. refl; poured = pours-none out₀ at₀ }

module _ {S : Type 0} {p : Says S} {kind : Kind} {b₀ : List ℕ} {i₀ : Input} {s₀ : S} {out₀ : List ℕ} {at₀ : ℕ} {b : List ℕ} {i : Input} {s : S} {out : List ℕ} {at n : ℕ}
    (g : Going p kind b₀ i₀ s₀ out₀ at₀ b i s out at n) where
  abbrev still : ℕ → S → List ℕ → List ℕ
  still = rest p kind (length b₀)

  -- one more
  module _ (few : n < many) {c : List ℕ} {left : Input} {from len : ℕ} (t : Took kind b i c from len left) where
    abbrev x : List ℕ
    x = unread b i ++ t.came

    abbrev one : Rec
    one = seen kind c from len

    first : first_of kind (length b₀) x ≡ one
    first = ap (λ (k : ℕ). first_of kind k x) (sym g.size) ∙ sym (seen_first t)

    turn : (more : List ℕ) → still n s (x ++ more) ≡ p.line (n + 1) s one ++ still (n + 1) (p.after s one) (unread c left ++ more)
    turn more =
        let e : many - n ≡ suc (many - (n + 1)) = omega arith in
        ap (λ (m : ℕ). lines_after p n s (records_in m kind (length b₀) (x ++ more))) e
        ∙ ap (lines_after p n s) (records-more kind (length b₀) (omega (arith, t.room, g.size)) (many - (n + 1)) x more t.whole)
        ∙ (λ j. p.line (n + 1) s (first j) ++ lines_after p (n + 1) (p.after s (first j)) (records_in (many - (n + 1)) kind (length b₀) (sym t.rest j ++ more)))

    took_more : length c ≡ length b → {out' : List ℕ} {at' : ℕ} → Pours out at (p.line (n + 1) s one) out' at'
        → Going p kind b₀ i₀ s₀ out₀ at₀ c left (p.after s one) out' at' (n + 1)
    took_more size q =
        record {
          came = g.came ++ t.came;
          text = g.text ++ p.line (n + 1) s one;
          size = size ∙ g.size;
          still = λ more.
              ap (λ (l : List ℕ). lines_after p 0 s₀ (records_in many kind (length b₀) (unread b₀ i₀ ++ l))) (append_assoc g.came t.came more)
              ∙ g.still (t.came ++ more)
              ∙ ap (λ (l : List ℕ). g.text ++ still n s l) (sym (append_assoc (unread b i) t.came more))
              ∙ ap (λ (l : List ℕ). g.text ++ l) (turn more)
              ∙ sym (append_assoc g.text (p.line (n + 1) s one) (still (n + 1) (p.after s one) (unread c left ++ more)));
          poured = pours-then g.poured q;
        }

  -- by the answer that gave it
  pub going_more : n < many → {c : List ℕ} {next : Next} {left : Input} {from len : ℕ} → Gives kind b i c next → next ≡ Record from len left → length c ≡ length b
      → {out' : List ℕ} {at' : ℕ} → Pours out at (p.line (n + 1) s (seen kind c from len)) out' at'
      → Going p kind b₀ i₀ s₀ out₀ at₀ c left (p.after s (seen kind c from len)) out' at' (n + 1)
  going_more few {c} {next} {left} {from} {len} x e = took_more few (subst (Gives kind b i c) e x)

  -- what is known, by another name
  pub going-to : {s' : S} → s ≡ s' → Going p kind b₀ i₀ s₀ out₀ at₀ b i s' out at n
  going-to e = subst (λ (t : S). Going p kind b₀ i₀ s₀ out₀ at₀ b i t out at n) e g

  -- by what a teller's line promises of the record that it is given, and of what is known then
  pub going_line : n < many → {c : List ℕ} {next : Next} {left : Input} {from len : ℕ} → Gives kind b i c next → next ≡ Record from len left → length c ≡ length b
      → {x : Rec} {s' : S} → x ≡ seen kind c from len → {out' : List ℕ} {at' : ℕ} → Pours out at (p.line (n + 1) s x) out' at' → s' ≡ p.after s x
      → Going p kind b₀ i₀ s₀ out₀ at₀ c left s' out' at' (n + 1)
  going_line few {c} {next} {left} {from} {len} t e size {x} {s'} is {out'} {at'} q known =
      subst (λ (z : S). Going p kind b₀ i₀ s₀ out₀ at₀ c left z out' at' (n + 1)) (ap (p.after s) (sym is) ∙ sym known)
      (going_more few t e size (pours-is q (ap (p.line (n + 1) s) is)))

  -- no more: of what came, that was all
  pub record AllSaid (next : Next) : Type 0 where
    pub more : List ℕ
    pub is : still n s (unread b i ++ more) ≡ p.last next n

  said_end : n < many → (next : Next) → ((from len : ℕ) (left : Input) → next ≡ Record from len left → ⊥) → (c : List ℕ) → Gives kind b i c next → AllSaid next
  said_end few (Record from len left) o c t = absurd (o from len left refl)
  said_end few End o c t =
      let e : many - n ≡ suc (many - (n + 1)) = omega arith in
      record {
        more = t.came;
        is =
            ap (λ (l : List ℕ). lines_after p n s (records_in (many - n) kind (length b₀) l)) t.none
            ∙ ap (λ (m : ℕ). lines_after p n s (records_in m kind (length b₀) [])) e
            ∙ ap (lines_after p n s) (records-none kind (length b₀) (omega (arith, t.room, g.size)) (many - (n + 1)));
      }
  said_end few Cut o c t =
      record {
        more = t.came;
        is =
            ap (lines_after p n s)
            (records-cut kind (length b₀) (many - n) (unread b i ++ t.came)
            (λ r. t.some (omega (arith, g.size)))
            (λ r. t.cut (omega (arith, g.size))));
      }

  -- more than are counted
  said-over : many ≤ n → AllSaid Cut
  said-over h =
      let e : many - n ≡ 0 = omega arith in
      record {
        more = [];
        is =
            ap (λ (m : ℕ). lines_after p n s (records_in m kind (length b₀) (unread b i ++ []))) e
            ∙ ap (lines_after p n s) (records-over kind (length b₀) (unread b i ++ []));
      }

  all_of : {next : Next} (a : AllSaid next) → lines_after p 0 s₀ (records_in many kind (length b₀) (unread b₀ i₀ ++ (g.came ++ a.more))) ≡ g.text ++ p.last next n
  all_of a = g.still a.more ∙ ap (λ (l : List ℕ). g.text ++ l) a.is

  ends_as : {next : Next} (a : AllSaid next) → {out' : List ℕ} {r : Bool} → Finishes out at (p.last next n) out' r → Tells kind (lines_after p 0 s₀) b₀ i₀ (out₀ ⇒ out') at₀ r
  ends_as a f = record { came = g.came ++ a.more; said = finishes-is (finishes-then g.poured f) (sym (all_of a)) }

  pub going_end : n < many → (next : Next) → ((from len : ℕ) (left : Input) → next ≡ Record from len left → ⊥) → (c : List ℕ) → Gives kind b i c next
      → {out' : List ℕ} {r : Bool} → Finishes out at (p.last next n) out' r → Tells kind (lines_after p 0 s₀) b₀ i₀ (out₀ ⇒ out') at₀ r
  going_end few next o c t f = ends_as (said_end few next o c t) f

  pub going-over : many ≤ n → {out' : List ℕ} {r : Bool} → Finishes out at (p.last Cut n) out' r → Tells kind (lines_after p 0 s₀) b₀ i₀ (out₀ ⇒ out') at₀ r
  going-over h f = ends_as (said-over h) f

  -- the output is closed, whatever is still to come
  pub going-shut : at ≡ closed → Tells kind (lines_after p 0 s₀) b₀ i₀ (out₀ ⇒ out) at₀ false
  going-shut e =
      record { came = g.came ++ []; said = finishes-shut e (pours-is (pours-stop (still n s (unread b i ++ [])) e g.poured) (sym (g.still []))) }

-- an input that ended gave no record
no_record : (e : Ending) (from len : ℕ) (left : Input) → ended_as e ≡ Record from len left → ⊥
no_record ending.End from len left q = cc
no_record ending.Cut from len left q = cc

-- ---- over a program's output, which holds the same buffer all along

module _ {S : Type 0} (p : Says S) (kind : Kind) (b₀ : List ℕ) (i₀ : Input) (s₀ : S) (o₀ : Output) where
  pub record Telling (b : List ℕ) (i : Input) (s : S) (o : Output) (n : ℕ) : Type 0 where
    pub same : o.buf.ghost_name ≡ o₀.buf.ghost_name
    pub going : Going p kind b₀ i₀ s₀ o₀.buf.now o₀.at b i s o.buf.now o.at n

  pub telling-none : Telling b₀ i₀ s₀ o₀ 0
  telling-none = record { same = refl; going = going-none p kind b₀ i₀ s₀ o₀.buf.now o₀.at }

module _ {S : Type 0} {p : Says S} {kind : Kind} {b₀ : List ℕ} {i₀ : Input} {s₀ : S} {o₀ : Output} {b : List ℕ} {i : Input} {s : S} {o : Output} {n : ℕ}
    (g : Telling p kind b₀ i₀ s₀ o₀ b i s o n) where
  pub telling-line : n < many → {c : List ℕ} {next : Next} {left : Input} {from len : ℕ} → Gives kind b i c next → next ≡ Record from len left → length c ≡ length b
      → {x : Rec} {s' : S} → x ≡ seen kind c from len → {o' : Output} → Adds o (p.line (n + 1) s x) o' → s' ≡ p.after s x
      → Telling p kind b₀ i₀ s₀ o₀ c left s' o' (n + 1)
  telling-line few t e size is q known = record { same = q.same ∙ g.same; going = going_line g.going few t e size is q.poured known }

  reached_as : {e : Ending} → AllSaid g.going (ended_as e) → Reached p s₀ kind b₀ i₀ o₀ (record { n = n; ending = e }) o
  reached_as a =
      record { came = g.going.came ++ a.more; text = g.going.text; all = all_of g.going a; adds = record { same = g.same; poured = g.going.poured } }

  pub reached_end : n < many → (e : Ending) (c : List ℕ) → Gives kind b i c (ended_as e) → Reached p s₀ kind b₀ i₀ o₀ (record { n = n; ending = e }) o
  reached_end few e c t = reached_as (said_end g.going few (ended_as e) (no_record e) c t)

  -- as many as are counted
  pub reached-all : n ≡ many → Reached p s₀ kind b₀ i₀ o₀ (record { n = many; ending = ending.Cut }) o
  reached-all e = subst (λ (k : ℕ). Reached p s₀ kind b₀ i₀ o₀ (record { n = k; ending = ending.Cut }) o) e (reached_as (said-over g.going (omega arith)))

  pub telling-shut : IsClosed o → TellsTo kind (lines_after p 0 s₀) b₀ i₀ o₀ o false
  telling-shut e = record { same = g.same; tells = going-shut g.going e }

-- the last line goes out behind all others
pub tells-reached : {S : Type 0} {p : Says S} {s : S} {kind : Kind} {b : List ℕ} {i : Input} {o q z : Output} {t : Told} {r : Bool}
    → Reached p s kind b i o t q → Ends q (p.last (ended_as t.ending) t.n) z r → TellsTo kind (lines_after p 0 s) b i o z r
tells-reached x f =
    let e = ends_is (ends_then x.adds f) (sym x.all) in record { same = e.same; tells = record { came = x.came; said = e.finished } }
