-- The lines of the entries that were passed, and of those that are left, heard by one receiver, are those of the log. Assumes nothing.
use Rattle.wire.proofs.Basics.{◌∙◌, sym, ◌≡◌, ap, refl, subst, ℕ, ◌+◌, List, [], ◌∷◌, ◌++◌, append_assoc, append-nil, true, Bool, length, length-append}
use Rattle.wire.specs.Bytes.{Bytes}
use Rattle.wire.specs.Choice.{pick}
use Rattle.steps.specs.Receive.{After, stay, Refused as Unheard}
use Rattle.steps.specs.Runs.{World, world_of}
use Rattle.receiver_state.specs.View.{view, shaped}
use Rattle.receiver.specs.Lent.{Lent, world_in}
use Rattle.flight_log.specs.declared.reader.Limits.{Limits}
use Rattle.flight_log.specs.declared.reader.EntryAt.{EntryAt}
use Rattle.flight_log.specs.Step.{Step, Found, End, Refused}
use Rattle.flight_log.specs.Editions.{limits_in_lem}
use Rattle.flight_log.specs.Entries.{Entry}
use Rattle.flight_log.specs.Listed.{Listed, whole, broken, entries_in}
use Rattle.flight_log.specs.Said.{entry_said, read_at}
use Rattle.flight_log.proofs.EntriesPassed.{after_all, after-whole, after-broken, Passed, passed_none, passed-more, passed-all, passed-broken}
use Rattle.within_limits.specs.Within.{received_within}
use Rattle.output.specs.declared.Output.{Output}
use Rattle.output.specs.Output.{Adds, IsClosed, Ends}
use Rattle.output.proofs.Adding.{adds_none, adds_then, adds_is, adds_stop, ends_then, ends_is}
use Rattle.log_lines.specs.Lines.{end_line, refused_line, last_line}
use Rattle.replay_lines.specs.Lines.{line}
use Rattle.replay_log.specs.Lines.{heard_by, lines_after, log_lines_lem, lines_from, Replayed}
use Rattle.replay_log.specs.declared.Replay.{Replay}
use Rattle.replay_log.specs.Inside.{lent_in, Stays}

-- ---- a call of the receiver is the step list's, and leaves what that leaves

module _ {limits : Limits} {l : Lent} {e : Entry} {n : ℕ} {out out' : Output} {l' : Lent} (s : shaped l.state l.names ≡ true)
    (h : Replayed limits l e n out l' out') where
  abbrev told : After
  told = heard_by limits (world_in l) e

  as_called : received_within limits l e.sender e.datagram ≡ told
  unfolding received_within
  as_called = ap (λ (t : Bool). pick t told (stay (view l.state l.names) l.store l.ledger (Unheard 9))) s

  pub replayed-said : Adds out (line n told.answer told.emptied) out'
  replayed-said =
      adds_is h.said
      ((λ j. line n (h.heard.leaves.answer j) (h.heard.leaves.emptied j)) ∙ ap (λ (a : After). line n a.answer a.emptied) as_called)

  pub replayed-left : world_of told ≡ world_in l'
  replayed-left =
      ap world_of (sym as_called)
      ∙ sym (λ j. record { machine = h.heard.leaves.machine j; store = h.heard.leaves.store j; ledger = h.heard.leaves.ledger j })

-- what stays, from call to call
pub stays_none : (r : Replay) → Stays r r
stays_none r = record { limits = refl; state = refl; names = refl }

pub stays_then : {r s t : Replay} → Stays r s → Stays s t → Stays r t
stays_then x y = record { limits = y.limits ∙ x.limits; state = y.state ∙ x.state; names = y.names ∙ x.names }

-- the same of a call, within the limits that stay
module _ {r s : Replay} {e : Entry} {n : ℕ} {out out' : Output} {l' : Lent} (i : Stays r s) (y : shaped s.state.now s.names.now ≡ true)
    (h : Replayed s.limits (lent_in s) e n out l' out') where
  within_first : Replayed r.limits (lent_in s) e n out l' out'
  within_first = subst (λ (x : Limits). Replayed x (lent_in s) e n out l' out') i.limits h

  pub heard_said : Adds out (line n (heard_by r.limits (world_in (lent_in s)) e).answer (heard_by r.limits (world_in (lent_in s)) e).emptied) out'
  heard_said = replayed-said y within_first

  pub heard_left : world_of (heard_by r.limits (world_in (lent_in s)) e) ≡ world_in l'
  heard_left = replayed-left y within_first

-- ---- entry by entry

-- the entries were passed and their lines poured, and whatever is left goes on with what the receiver holds now
pub record Going (log : List ℕ) (limits : Limits) (w₀ : World) (o : Output) (w : World) (p : Output) (place n : ℕ) : Type 0 where
  pub entries : List Entry
  pub count : n ≡ length entries
  pub passed : Passed log entries place
  pub text : List ℕ
  pub still : (es : List Entry) (last : ℕ → List ℕ) → lines_after limits 0 w₀ (entries ++ es) last ≡ text ++ lines_after limits n w es last
  pub adds : Adds o text p

pub going-none : (log : List ℕ) (limits : Limits) (w : World) (o : Output) → Bytes log → Going log limits w o w o 0 0
going-none log limits w o h =
    record { entries = []; count = refl; passed = passed_none log h; text = []; still = λ es last. refl; adds = adds_none o }

module _ {log : List ℕ} {limits : Limits} {w₀ : World} {o : Output} {w : World} {p : Output} {place n : ℕ} (h : Bytes log)
    (g : Going log limits w₀ o w p place n) where
  -- one more
  module _ (e : EntryAt) (found : read_at log place ≡ Found e) where
    abbrev told_of_lem : After
    told_of_lem = heard_by limits w (entry_said log e)

    abbrev one : List ℕ
    one = line (n + 1) told_of_lem.answer told_of_lem.emptied

    pub going_more : {w' : World} {z : Output} → world_of told_of_lem ≡ w' → Adds p one z → Going log limits w₀ o w' z e.next (n + 1)
    going_more {w'} {z} q a =
        record {
          entries = g.entries ++ entry_said log e ∷ [];
          count = ap (λ (m : ℕ). m + 1) g.count ∙ sym (length-append g.entries (entry_said log e ∷ []));
          passed = passed-more log h g.entries place g.passed e found;
          text = g.text ++ one;
          still = λ es last.
              ap (λ (l : List Entry). lines_after limits 0 w₀ l last) (append_assoc g.entries (entry_said log e ∷ []) es)
              ∙ g.still (entry_said log e ∷ es) last
              ∙ ap (λ (v : World). g.text ++ (one ++ lines_after limits (n + 1) v es last)) q
              ∙ sym (append_assoc g.text one (lines_after limits (n + 1) w' es last));
          adds = adds_then g.adds a;
        }

  -- no more: the last line is that of the step that ended the reading
  all-passed : (last : ℕ → List ℕ) → lines_after limits 0 w₀ g.entries last ≡ g.text ++ last n
  all-passed last = ap (λ (l : List Entry). lines_after limits 0 w₀ l last) (sym (append-nil g.entries)) ∙ g.still [] last

  lines_end : (x : Step) → read_at log place ≡ x → ((e : EntryAt) → x ≡ Found e → ⊥) → g.text ++ last_line x n ≡ log_lines_lem limits w₀ (entries_in log)
  lines_end (Found e) q o = absurd (o e refl)
  lines_end End q o = sym (ap (log_lines_lem limits w₀) (passed-all log h g.entries place g.passed q) ∙ all-passed end_line)
  lines_end (Refused number) q o = sym (ap (log_lines_lem limits w₀) (passed-broken log h g.entries place g.passed number q) ∙ all-passed (refused_line number))

  pub going_end : (x : Step) → read_at log place ≡ x → ((e : EntryAt) → x ≡ Found e → ⊥) → {z : Output} {r : Bool} → Ends p (last_line x n) z r
      → Ends o (log_lines_lem limits w₀ (entries_in log)) z r
  going_end x q none a = ends_is (ends_then g.adds a) (lines_end x q none)

  -- the output is closed, whatever is still to come
  rest_of : Listed → List ℕ
  rest_of (whole es) = lines_after limits n w es end_line
  rest_of (broken es number) = lines_after limits n w es (refused_line number)

  lines_rest : (x : Listed) → log_lines_lem limits w₀ (after_all g.entries x) ≡ g.text ++ rest_of x
  unfolding rest_of
  lines_rest (whole es) = ap (log_lines_lem limits w₀) (after-whole g.entries es) ∙ g.still es end_line
  lines_rest (broken es number) = ap (log_lines_lem limits w₀) (after-broken g.entries es number) ∙ g.still es (refused_line number)

  pub going-shut : IsClosed p → Adds o (log_lines_lem limits w₀ (entries_in log)) p
  going-shut e = adds_is (adds_stop _ e g.adds) (sym (ap (log_lines_lem limits w₀) g.passed.is ∙ lines_rest _))

-- the lines of a log are those within its own limits
pub from_limits : (log : List ℕ) (w : World) {limits : Limits} → limits ≡ limits_in_lem log → log_lines_lem limits w (entries_in log) ≡ lines_from w log
unfolding lines_from
from_limits log w e = ap (λ (x : Limits). log_lines_lem x w (entries_in log)) e
