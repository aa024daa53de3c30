-- A message cut by our cutter, for datagrams of any size, is one of the lawful messages of demand 3.
use Rattle.wire.proofs.Basics.{◌∙◌, sym, ◌≡◌, ap, refl, subst, ℕ, ◌≤◌, ◌+◌, ◌<◌, suc, zero, ◌^◌, zero-le, suc-le-suc, List, [], true, false, Bool, not, length, get_or, not-suc-le-zero, le_of_suc-le-suc}
use Rattle.wire.specs.Choice.{pick}
use Rattle.datagram.specs.Limits.{max_payload, max_fragments}
use Rattle.datagram.specs.Said.{fragment, said}
use Rattle.std.proofs.Common.{Ok}
use Rattle.cutter.specs.Cut.{CutTo, is_small, count_of, begins_at_lem, datagram_of, piece_of}
use Rattle.cutter.specs.Trip.{Cuttable, cut_fragment, joined}
use Rattle.cutter.proofs.Counts.{begins-next, count-some, piece-full, joined-all}
use Rattle.cutter.proofs.Sizes.{Done, made}
use Rattle.cutter.proofs.Trips.{fragment-said, small-said}
use Rattle.cutter.proofs.Output.{cuttable, cut-bytes}
use Rattle.arrival.specs.Demand.{Message, SentSmall, SentCut, Sent, parts, datagram}
use Rattle.arrival.specs.Ours.{table, cut_message, OneOfOurs}

table-length : {A : Type 0} (n : ℕ) (h : ℕ → A) → length (table n h) ≡ n
table-length zero h = refl
table-length (suc n) h = ap suc (table-length n (λ k. h (suc k)))

table_at : {A : Type 0} (n : ℕ) (h : ℕ → A) (k : ℕ) (x : A) → k < n → get_or (table n h) k x ≡ h k
table_at zero h k x b = absurd (not-suc-le-zero b)
table_at (suc n) h zero x b = refl
table_at (suc n) h (suc k) x b = table_at n (λ j. h (suc j)) k x (le_of_suc-le-suc b)

module _ (C sender q : ℕ) (name payload : List ℕ) (m : ℕ) (w : Cuttable max_payload max_fragments q name payload m) where
  abbrev n : ℕ
  n = count_of (length name) (length payload) m

  abbrev ours : Message
  ours = cut_message sender q name payload m

  its-parts : parts ours ≡ n
  its-parts = table-length n (datagram_of q name payload m)

  its-datagram : (k : ℕ) → k < n → datagram ours k ≡ datagram_of q name payload m k
  its-datagram k h = table_at n (datagram_of q name payload m) k [] h

  below : (k : ℕ) → k < parts ours → k < n
  below k h = subst (λ (x : ℕ). k < x) its-parts h

  -- in fragments
  module _ (large : is_small (length name) (length payload) m ≡ false) where
    good' : (k : ℕ) → k < parts ours → said max_payload max_fragments (datagram ours k) ≡ fragment (cut_fragment q name payload m k)
    good' k h = ap (said max_payload max_fragments) (its-datagram k (below k h)) ∙ fragment-said max_payload max_fragments q name payload m w large k (below k h)

    follows' : (k : ℕ) → k + 1 < parts ours
        → begins_at_lem (length name) m (k + 1) ≡ begins_at_lem (length name) m k + length (piece_of name payload m k)
    follows' k h =
        begins-next (length name) m k
        ∙ ap (λ (x : ℕ). begins_at_lem (length name) m k + x) (sym (piece-full name payload m w.sized large k (below (k + 1) h)))

    in-fragments : length payload ≤ C → SentCut C ours
    in-fragments fits = record {
      lawful = record {
        cut = record {
          at_least_one = rw its-parts (count-some (length name) (length payload) m w.sized large);
          sequence = q;
          size = length payload;
          piece = cut_fragment q name payload m;
          good = good';
          numbers = λ k h. refl;
          sequences = λ k h. refl;
          sizes = λ k h. refl;
          counts = λ k h. sym its-parts;
          follows = follows';
        };
        its-sequence = refl;
        its-name = refl;
        its-payload = ap (joined (piece_of name payload m)) its-parts ∙ joined-all name payload m w.sized large;
      };
      no-larger = fits;
    }

  one-part : is_small (length name) (length payload) m ≡ true → n ≡ 1
  unfolding count_of
  one-part z = rw z

  pub our-cut : length payload ≤ C → Sent C (cut_message sender q name payload m)
  our-cut fits = go (is_small (length name) (length payload) m) refl
    where
      go : (b : Bool) → is_small (length name) (length payload) m ≡ b → pick (not b) (SentCut C ours) (SentSmall ours)
      go true e = record {
        single = its-parts ∙ one-part e;
        reads = ap (said max_payload max_fragments) (its-datagram 0 (rw (one-part e) (suc-le-suc zero-le))) ∙ small-said max_payload max_fragments q name payload m w e 0;
      }
      go false e = in-fragments e fits

-- what a call of the cutter that made a datagram left
pub one-of-ours : (C sender : ℕ) (name payload : List ℕ) (q m index : ℕ) (out : List ℕ) (n l : ℕ) (out' : List ℕ)
    → q < 2 ^ 32 → CutTo name payload q m index out (Ok (record { count = n; len = l })) out' → OneOfOurs C (cut_message sender q name payload m) index n l out'
one-of-ours C sender name payload q m index out n l out' fits k =
    let w : Cuttable max_payload max_fragments q name payload m = cuttable name payload q m index out n l out' fits k in
    let d : Done name payload m index (length out) n l = made name payload m index (length out) n l (sym k.answer) in
    record {
      lawful = our-cut C sender q name payload m w;
      all = its-parts C sender q name payload m w ∙ sym d.plan.count;
      this = cut-bytes name payload q m index out n l out' fits k
          ∙ sym (its-datagram C sender q name payload m w index (subst (λ (x : ℕ). index < x) d.plan.count d.plan.asked));
    }
