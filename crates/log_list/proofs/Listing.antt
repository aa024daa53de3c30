-- The lines of the entries that were passed, and of those that are left, are those of the log. Assumes nothing.
use Rattle.wire.proofs.Basics.{◌∙◌, sym, ◌≡◌, ap, refl, ℕ, Bool, ◌+◌, List, [], ◌∷◌, ◌++◌, append_assoc, append-nil, length, length-append, arith}
use Rattle.wire.specs.Bytes.{Bytes}
use Rattle.flight_log.specs.declared.reader.EntryAt.{EntryAt}
use Rattle.flight_log.specs.Step.{Step, Found, End, Refused}
use Rattle.flight_log.specs.Entries.{Entry}
use Rattle.flight_log.specs.Listed.{Listed, whole, broken, entries_in}
use Rattle.flight_log.specs.Said.{entry_said, read_at}
use Rattle.flight_log.proofs.EntriesPassed.{after_all, after-whole, after-broken, Passed, passed_none, passed-more, passed-all, passed-broken, ahead}
use Rattle.output.specs.declared.Output.{Output}
use Rattle.output.specs.Output.{Adds, IsClosed, Ends}
use Rattle.output.proofs.Adding.{adds_none, adds_then, adds_is, adds_stop, ends_then, ends_is}
use Rattle.log_lines.specs.Lines.{entry_line, end_line, refused_line, last_line}
use Rattle.log_list.specs.Lines.{lines_after, log_lines_lem}

-- no last line
abbrev nothing : ℕ → List ℕ
nothing n = []

-- some entries, and others behind them
lines_split : (n : ℕ) (es fs : List Entry) (last : ℕ → List ℕ) → lines_after n (es ++ fs) last ≡ lines_after n es nothing ++ lines_after (n + length es) fs last
lines_split n [] fs last = ap (λ (m : ℕ). lines_after m fs last) (let z : n ≡ n + 0 = omega arith in z)
lines_split n (e ∷ es) fs last =
    let k : n + 1 + length es ≡ n + length (e ∷ es) = omega arith in
    let one = entry_line (n + 1) e.sender e.tick (length e.datagram) in
    ap (λ (l : List ℕ). one ++ l) (lines_split (n + 1) es fs last ∙ ap (λ (m : ℕ). lines_after (n + 1) es nothing ++ lines_after m fs last) k)
    ∙ sym (append_assoc one (lines_after (n + 1) es nothing) (lines_after (n + length (e ∷ es)) fs last))

lines-last : (es : List Entry) (last : ℕ → List ℕ) → lines_after 0 es last ≡ lines_after 0 es nothing ++ last (length es)
lines-last es last =
    ap (λ (l : List Entry). lines_after 0 l last) (sym (append-nil es))
    ∙ lines_split 0 es [] last
    ∙ ap (λ (m : ℕ). lines_after 0 es nothing ++ last m) (let z : 0 + length es ≡ length es = omega arith in z)

-- what is still to come behind some entries
rest_lines : List Entry → Listed → List ℕ
rest_lines ds (whole es) = lines_after (0 + length ds) es end_line
rest_lines ds (broken es number) = lines_after (0 + length ds) es (refused_line number)

lines_rest : (ds : List Entry) (x : Listed) → log_lines_lem (after_all ds x) ≡ lines_after 0 ds nothing ++ rest_lines ds x
unfolding rest_lines
lines_rest ds (whole es) = ap log_lines_lem (after-whole ds es) ∙ lines_split 0 ds es end_line
lines_rest ds (broken es number) = ap log_lines_lem (after-broken ds es number) ∙ lines_split 0 ds es (refused_line number)

-- the entries were passed, and their lines poured
pub record Going (log : List ℕ) (o p : Output) (place n : ℕ) : Type 0 where
  pub entries : List Entry
  pub count : n ≡ length entries
  pub passed : Passed log entries place
  pub adds : Adds o (lines_after 0 entries nothing) p

pub going-none : (log : List ℕ) (o : Output) → Bytes log → Going log o o 0 0
going-none log o h = record { entries = []; count = refl; passed = passed_none log h; adds = adds_none o }

module _ {log : List ℕ} {o p : Output} {place n : ℕ} (h : Bytes log) (g : Going log o p place n) where
  -- one more
  module _ (e : EntryAt) (found : read_at log place ≡ Found e) where
    abbrev said : Entry
    said = entry_said log e

    lines_more : lines_after 0 g.entries nothing ++ entry_line (n + 1) e.sender e.tick e.len ≡ lines_after 0 (g.entries ++ said ∷ []) nothing
    lines_more =
        let k : n + 1 ≡ 0 + length g.entries + 1 = ap (λ (m : ℕ). m + 1) (g.count ∙ (let z : length g.entries ≡ 0 + length g.entries = omega arith in z)) in
        ap (λ (l : List ℕ). lines_after 0 g.entries nothing ++ l) (
        ap (λ (m : ℕ). entry_line m e.sender e.tick e.len) k
        ∙ ap (entry_line (0 + length g.entries + 1) e.sender e.tick) (sym (ahead log h e place found).size)
        ∙ sym (append-nil (entry_line (0 + length g.entries + 1) said.sender said.tick (length said.datagram))))
        ∙ sym (lines_split 0 g.entries (said ∷ []) nothing)

    pub going_more : {q : Output} → Adds p (entry_line (n + 1) e.sender e.tick e.len) q → Going log o q e.next (n + 1)
    going_more a =
        record {
          entries = g.entries ++ said ∷ [];
          count = ap (λ (m : ℕ). m + 1) g.count ∙ sym (length-append g.entries (said ∷ []));
          passed = passed-more log h g.entries place g.passed e found;
          adds = adds_is (adds_then g.adds a) lines_more;
        }

  -- no more: the last line is that of the step that ended the reading
  lines_end : (x : Step) → read_at log place ≡ x → ((e : EntryAt) → x ≡ Found e → ⊥) → lines_after 0 g.entries nothing ++ last_line x n ≡ log_lines_lem (entries_in log)
  lines_end (Found e) q o = absurd (o e refl)
  lines_end End q o =
      ap (λ (m : ℕ). lines_after 0 g.entries nothing ++ end_line m) g.count
      ∙ sym (lines-last g.entries end_line)
      ∙ sym (ap log_lines_lem (passed-all log h g.entries place g.passed q))
  lines_end (Refused number) q o =
      ap (λ (m : ℕ). lines_after 0 g.entries nothing ++ refused_line number m) g.count
      ∙ sym (lines-last g.entries (refused_line number))
      ∙ sym (ap log_lines_lem (passed-broken log h g.entries place g.passed number q))

  pub going_end : (x : Step) → read_at log place ≡ x → ((e : EntryAt) → x ≡ Found e → ⊥) → {q : Output} {r : Bool} → Ends p (last_line x n) q r
      → Ends o (log_lines_lem (entries_in log)) q r
  going_end x e none a = ends_is (ends_then g.adds a) (lines_end x e none)

  -- the output is closed, whatever is still to come
  pub going-shut : IsClosed p → Adds o (log_lines_lem (entries_in log)) p
  going-shut e = adds_is (adds_stop _ e g.adds) (sym (ap log_lines_lem g.passed.is ∙ lines_rest g.entries _))
