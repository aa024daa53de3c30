-- An index file that is read, extended by what was added to its log and written again, over any number of times, is the one worked out afresh.
-- Assumes nothing.
use Rattle.wire.proofs.Basics.{◌∙◌, sym, ◌≡◌, ap, subst, ℕ, ◌≤◌, ◌+◌, ◌<◌, ◌*◌, ◌^◌, List, ◌++◌, length, drop, take, take-append-drop, arith}
use Rattle.wire.specs.Bytes.{Bytes}
use Rattle.wire.specs.Overlay.{overlay}
use Rattle.wire.proofs.Overlays.{overlay-at}
use Rattle.log_index.specs.Rows.{Row, sorted}
use Rattle.log_index.specs.Words.{words_of, row_at}
use Rattle.log_index.proofs.Sorts.{sorted-length}
use Rattle.log_index.proofs.Wordings.{words-length, row_words}
use Rattle.index_builder.specs.Adds.{IndexOf, IndexesOn}
use Rattle.std.proofs.Common.{Ok}
use Rattle.index_builder.proofs.Promises.{index-left, on-afresh, on_extended}
use Rattle.index_file.specs.File.{file_of, covered_in, count_in, first_rows, rows_of_file}
use Rattle.index_file.proofs.Places.{first-list}
use Rattle.index_file.proofs.Determines.{file-length}
use Rattle.index_look.specs.Kept.{FileOf}
use Rattle.index_look.proofs.Kept.{file-count, file-covers, file-rows, file-once}

-- ---- the index of a log, written, is the file of the log

rows-there : (log w : List ℕ) (n : ℕ) → (i : IndexOf log w n) → first_rows n (row_at w) ≡ sorted i.rows
rows-there log w n i =
    let rs = sorted i.rows in
    let c : n ≡ length rs = i.count ∙ sym (sorted-length i.rows) in
    let split : w ≡ words_of rs ++ drop (3 * n) w = sym (take-append-drop (3 * n) w) ∙ ap (λ (u : List ℕ). u ++ drop (3 * n) w) i.words in
    ap (λ (k : ℕ). first_rows k (row_at w)) c
    ∙ first-list rs (row_at w) (λ j h. ap (λ (v : List ℕ). row_at v j) split ∙ row_words rs (drop (3 * n) w) j h)

pub written-file : (log w : List ℕ) (n : ℕ) → IndexOf log w n → (f f' : List ℕ) → 17 + 20 * n ≤ length f → f' ≡ overlay f 0 (file_of (length log) (first_rows n (row_at w))) → FileOf log (take (17 + 20 * n) f')
written-file log w n i f f' room e =
    let b = file_of (length log) (sorted i.rows) in
    let l : length b ≡ 17 + 20 * n = file-length (length log) (sorted i.rows) ∙ (let c = i.count in let d = sorted-length i.rows in omega (arith, c, d)) in
    let r : 0 + length b ≤ length f = omega (arith, l, room) in
    let g : f' ≡ overlay f 0 b = e ∙ ap (λ (rs : List Row). overlay f 0 (file_of (length log) rs)) (rows-there log w n i) in
    record { rows = i.rows; from-log = i.from-log; file = (λ j. take (sym l j) (g j)) ∙ overlay-at f 0 b r }

-- ---- the file of a log, read, is the index of the log

pub read-index : (log f : List ℕ) → Bytes log → length log < 2 ^ 64 → FileOf log f → (w w' : List ℕ) → 3 * count_in f ≤ length w → w' ≡ overlay w 0 (words_of (rows_of_file f)) → IndexOf log w' (count_in f)
read-index log f h small k w w' room e =
    let rs = k.rows in
    let c : count_in f ≡ length (sorted rs) = file-count log f h small k in
    let l : length (words_of (sorted rs)) ≡ 3 * count_in f = words-length (sorted rs) ∙ ap (λ (n : ℕ). 3 * n) (sym c) in
    let r : 0 + length (words_of (sorted rs)) ≤ length w = omega (arith, l, room) in
    let g : w' ≡ overlay w 0 (words_of (sorted rs)) = e ∙ ap (λ (l : List Row). overlay w 0 (words_of l)) (file-rows log f h small k) in
    record {
      rows = rs;
      from-log = k.from-log;
      count = c ∙ sorted-length rs;
      words = (λ j. take (sym l j) (g j)) ∙ overlay-at w 0 (words_of (sorted rs)) r;
    }

-- ---- a file that was made and then extended, any number of times

-- it is read into lent words, they are extended from where it covers the log on, and it is written again
pub record Extended (log rest f f' : List ℕ) : Type 0 where
  pub words : List ℕ
  pub held : 3 * count_in f ≤ length words
  pub before : List ℕ
  pub reads : before ≡ overlay words 0 (words_of (rows_of_file f))
  pub most : ℕ
  pub rows : ℕ
  pub after : List ℕ
  pub extends : IndexesOn (log ++ rest) (covered_in f) before (count_in f) most (Ok rows) after
  pub out : List ℕ
  pub room : 17 + 20 * rows ≤ length out
  pub out' : List ℕ
  pub writes : out' ≡ overlay out 0 (file_of (length (log ++ rest)) (first_rows rows (row_at after)))
  pub file : f' ≡ take (17 + 20 * rows) out'

pub file_extended : (log rest f f' : List ℕ) → Bytes log → Bytes rest → length log < 2 ^ 64 → FileOf log f → Extended log rest f f' → FileOf (log ++ rest) f'
file_extended log rest f f' h k small o x =
    let i = read-index log f h small o x.words x.before x.held x.reads in
    let a = subst (λ (from : ℕ). IndexesOn (log ++ rest) from x.before (count_in f) x.most (Ok x.rows) x.after) (file-covers log f h small o) x.extends in
    let j = index-left (log ++ rest) x.before x.rows x.after (on_extended log rest x.before h k (count_in f) i x.most (Ok x.rows) x.after a) in
    subst (FileOf (log ++ rest)) (sym x.file) (written-file (log ++ rest) x.after x.rows j x.out x.out' x.room x.writes)

-- from the file of a log, stretch by stretch
pub data Grown (log f : List ℕ) : List ℕ → List ℕ → Type 0 where
  kept : Grown log f log f
  grown : {big mid : List ℕ} (rest f' : List ℕ) → Grown log f big mid → Bytes big → Bytes rest → length big < 2 ^ 64 → Extended big rest mid f' → Grown log f (big ++ rest) f'

-- it is the file of the log as it is now
pub grown-file : {log f big g : List ℕ} → FileOf log f → Grown log f big g → FileOf big g
grown-file o kept = o
grown-file o (grown rest f' before h k small x) = file_extended _ rest _ f' h k small (grown-file o before) x

-- so it is the one that is worked out afresh
pub grown-afresh : {log f big g : List ℕ} (fresh : List ℕ) → FileOf log f → Grown log f big g → FileOf big fresh → g ≡ fresh
grown-afresh fresh o w k = file-once _ _ fresh (grown-file o w) k

-- ---- and that is the one of an index made of all, written
pub fresh-file : (log w : List ℕ) (most n : ℕ) (w' : List ℕ) → IndexesOn log 0 w 0 most (Ok n) w' → (f f' : List ℕ) → 17 + 20 * n ≤ length f → f' ≡ overlay f 0 (file_of (length log) (first_rows n (row_at w'))) → FileOf log (take (17 + 20 * n) f')
fresh-file log w most n w' a f f' room e = written-file log w' n (index-left log w n w' (on-afresh log w most (Ok n) w' a)) f f' room e
