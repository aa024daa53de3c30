-- A log is counted within the limits of its own edition. Assumes nothing.
use Rattle.wire.proofs.Basics.{◌∙◌, ◌≡◌, ap, refl, ℕ, List, some, Option, length}
use Rattle.flight_log.specs.Editions.{Edition, Lawful, edition_in, limits_of, limits_or}
use Rattle.flight_log.specs.Entries.{Entry, AllKeep, body_of, log_of}
use Rattle.flight_log.specs.Listed.{Listed, whole, list_by, entries_after, entries_in}
use Rattle.flight_log.proofs.LogRoundTrip.{head-back, entries-of-log}
use Rattle.count_rules.specs.Count.{count_entries, count_listed, count_log_lem}

module _ (v : Edition) (lawful : Lawful v) (es : List Entry) where
  by-head : (edition_in (log_of v es) ≡ some v) × (entries_in (log_of v es) ≡ whole es) → (room : ℕ) (store ledger : List ℕ)
      → count_log_lem room store ledger (log_of v es) ≡ count_entries (limits_of v) room store ledger es
  unfolding count_log_lem
  by-head e room store ledger =
      ap (λ (x : Option Edition). count_listed (limits_or x) room store ledger (entries_in (log_of v es))) e.0
      ∙ ap (λ (x : Listed). count_listed (limits_of v) room store ledger x) e.1

  pub own-limits : AllKeep es → (room : ℕ) (store ledger : List ℕ) → count_log_lem room store ledger (log_of v es) ≡ count_entries (limits_of v) room store ledger es
  own-limits k = by-head (entries-of-log v lawful es k)

  -- of entries whose bytes are computed
  pub own-listed : list_by (length (body_of es)) (body_of es) ≡ whole es → (room : ℕ) (store ledger : List ℕ)
      → count_log_lem room store ledger (log_of v es) ≡ count_entries (limits_of v) room store ledger es
  unfolding entries_in entries_after log_of
  own-listed k = by-head (rw (head-back v lawful (body_of es)) (refl, k))
