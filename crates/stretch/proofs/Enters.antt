-- One entry: the receiver's call is the step list's, its answer is told, and what it delivers is taken. Assumes nothing.
use Rattle.wire.proofs.Basics.{◌∙◌, sym, ◌≡◌, ap, refl, subst, ℕ, ◌<◌, List, [], ◌∷◌, ◌++◌, true, false, Bool, inl, inr, length, arith}
use Rattle.wire.specs.Bytes.{Bytes}
use Rattle.steps.specs.Receive.{Refused}
use Rattle.steps.specs.Receive.{After, stay}
use Rattle.steps.specs.Answers.{answer_told, Reply, refused_by, kept, repeat, delivered, reply}
use Rattle.steps.specs.Runs.{World}
use Rattle.receiver.specs.declared.Outcome.{Outcome}
use Rattle.receiver.specs.Lent.{Lent}
use Rattle.open_and_payload.specs.Ends.{payload_of}
use Rattle.within_limits.specs.Within.{received_within, ReceivesWithin}
use Rattle.lmcp.specs.Read.{Read}
use Rattle.flight_log.specs.declared.reader.Limits.{Limits}
use Rattle.flight_log.specs.Entries.{Entry}
use Rattle.sorted_set.specs.Lists.{In}
use Rattle.count_rules.specs.Run.{called, refusals, payload_in}
use Rattle.count_rules.specs.Walk.{list_at}
use Rattle.count_rules.proofs.Totals.{called-number}
use Rattle.pit_marks.specs.declared.Sizes.{Sizes}
use Rattle.pit_payloads.specs.Looks.{Book, Left, in_read, Leaves}
use Rattle.pit_payloads.specs.Took.{lists_in}
use Rattle.pit_payloads.proofs.Empty.{empty-read, empty_left}
use Rattle.stretch.specs.declared.Totals.{Totals}
use Rattle.stretch.specs.Stretch.{Desk, desk, Kit, kit_of, in_shape, called_on, reply_on, looked_at, enter_on, totals_of}
use Rattle.stretch.specs.Inside.{Ran, told_of, with_lists, ran_by_lem, TakesPayload, TakesEntry}
use Rattle.stretch.proofs.Adds.{told_more}

-- an answer is refused by a number below ten
pub number : (b : Bool) (l : Limits) (w : World) (e : Entry) (k : ℕ) → (called_on b l w e).answer ≡ Refused k → k < refusals
unfolding called_on stay
number true l w e k q = omega (arith, (called-number l w e k q).1)
number false l w e k q = let z : 9 ≡ k = cc in omega arith

-- an answer of which only a delivered payload is read, with the desk k lent
module _ (k : Desk) (sizes : Sizes) (b' : Book) (totals : Totals) (r : Ran) where
  abbrev K : Kit
  K = kit_of k sizes

  record Read-so (y : Reply) : Type 0 where
    gave : r ≡ ran_by_lem totals sizes (looked_at K y).answer
    list-is : b'.list ≡ list_at k.book.list y
    sets-are : b'.sets ≡ (looked_at K y).sets
    handed : (x : List ℕ) → In x (payload_in y) → Bytes x

  abbrev Takes_it : List ℕ → Type 0
  Takes_it x = TakesPayload x k.book totals sizes r b'

  none : (y : Reply) → looked_at K y ≡ looked_at K kept → list_at k.book.list y ≡ k.book.list → payload_in y ≡ [] → Takes_it [] → Read-so y
  none y e f g T =
      let L : Leaves (looked_at K kept) T.answer b'.sets =
      subst (λ (x : Read). Leaves (in_read (length k.book.list) x k.book.sets sizes) T.answer b'.sets) empty-read T.looks.leaves in
      record {
        gave = T.gave ∙ ap (ran_by_lem totals sizes) (L.gave ∙ ap (λ (x : Left). x.answer) (sym e));
        list-is = T.looks.list_left ∙ (empty_left k.book.list ∙ sym f);
        sets-are = L.sets-left ∙ ap (λ (x : Left). x.sets) (sym e);
        handed = λ x i. absurd (subst (λ (ps : List (List ℕ)). In x ps) g i);
      }

  read-so : (y : Reply) → Takes_it (payload_of y) → Read-so y
  read-so (refused_by n) T = none (refused_by n) refl refl refl T
  read-so kept T = none kept refl refl refl T
  read-so repeat T = none repeat refl refl refl T
  read-so (delivered x) T = record {
    gave = T.gave ∙ ap (ran_by_lem totals sizes) T.looks.leaves.gave;
    list-is = T.looks.list_left;
    sets-are = T.looks.leaves.sets-left;
    handed = λ y i. elim i [ inl q ↦ subst Bytes (sym q) T.bytes | inr z ↦ absurd z ];
  }

-- the entry, whose datagram is d, and that delivers the payload x
module _ (l : Limits) (e : Entry) (k : Desk) (totals : Totals) (sizes : Sizes) (d : List ℕ) (ed : d ≡ e.datagram) (outcome : Outcome) (m' : Lent)
    (R : ReceivesWithin l k.lent e.sender d outcome m') (after : Totals) (ea : after ≡ told_of totals (answer_told outcome.answer))
    (x : List ℕ) (ex : x ≡ payload_of (reply d m'.store (answer_told outcome.answer))) (r : Ran) (b' : Book) (T : TakesPayload x k.book after sizes r b') where
  abbrev W : World
  W = (kit_of k sizes).world

  abbrev A : After
  A = called_on (in_shape k) l W e

  abbrev y : Reply
  y = reply_on (in_shape k) l W e

  call-is : received_within l k.lent e.sender d ≡ A
  unfolding received_within called_on called
  call-is = ap (λ (z : List ℕ). received_within l k.lent e.sender z) ed

  answered : answer_told outcome.answer ≡ A.answer
  answered = R.leaves.answer ∙ ap (λ (z : After). z.answer) call-is

  stored : m'.store ≡ A.store
  stored = R.leaves.store ∙ ap (λ (z : After). z.store) call-is

  reply-is : reply d m'.store (answer_told outcome.answer) ≡ y
  reply-is = λ i. reply (ed i) (stored i) (answered i)

  so : Read-so k sizes b' after r y
  so = read-so k sizes b' after r y (subst (λ (z : List ℕ). TakesPayload z k.book after sizes r b') (ex ∙ ap payload_of reply-is) T)

  told : (rs : List Reply) (n : ℕ) → totals ≡ totals_of rs n → after ≡ totals_of (rs ++ y ∷ []) n
  told rs n q =
      ea
      ∙ (ap (λ (z : Totals). told_of z (answer_told outcome.answer)) q
      ∙ (told_more rs n d m'.store (answer_told outcome.answer) (λ j u. number (in_shape k) l W e j (sym answered ∙ u)) ∙ ap (λ (z : Reply). totals_of (rs ++ z ∷ []) n) reply-is))

  pub entry-takes : TakesEntry l e k totals sizes r (desk m' b')
  unfolding enter_on
  entry-takes = record {
    found = ap (λ (z : Ran). z.fault) so.gave;
    shows = λ i. record {
      world = record {
        machine = (R.leaves.machine ∙ ap (λ (z : After). z.machine) call-is) i;
        store = stored i;
        ledger = (R.leaves.ledger ∙ ap (λ (z : After). z.ledger) call-is) i;
      };
      list = so.list-is i;
      sets = so.sets-are i;
      sizes = ap (λ (z : Ran). z.sizes) so.gave i;
    };
    totals-are = λ rs n q. ap (λ (z : Ran). z.totals) so.gave ∙ ap (λ (z : Totals). with_lists z (lists_in (looked_at (kit_of k sizes) y).answer)) (told rs n q);
    words = R.words;
    names = R.bytes;
    handed = so.handed;
  }
