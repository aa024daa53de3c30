-- A FLIGHT AND A SEASON against which nothing stood: what the map holds, and its tile lines. Assumes nothing.
use Rattle.wire.proofs.Basics.{◌∙◌, sym, ◌≡◌, ap, refl, subst, subst₂, ℕ, suc, List, [], ◌∷◌, ◌++◌, map, true, inl, inr, ◌⊎◌, length}
use mathlib.Core.List.{map-id}
use Rattle.wire.specs.Bytes.{Bytes}
use Rattle.wire.specs.Overlay.{overlay}
use Rattle.wire.specs.Slices.{Buffer}
use Rattle.wire.proofs.Parts.{map_both}
use Rattle.steps.specs.Answers.{Reply}
use Rattle.flight_log.specs.Editions.{limits_in_lem}
use Rattle.flight_log.specs.Entries.{Entry}
use Rattle.flight_log.specs.Listed.{Listed, entries_in}
use Rattle.flight_log.specs.Said.{read_all}
use Rattle.flight_log.proofs.ReadingOn.{read-all}
use Rattle.sorted_set.specs.Lists.{In, SameMembers}
use Rattle.sorted_set.proofs.Members.{in_left, in_right, in_either, gather_in, Source, gather-from, map_in_lem, Origin, map-from}
use Rattle.count_rules.specs.Marks.{PitList}
use Rattle.count_rules.specs.Report.{tiles, pits, sure_pits, Line, line, report}
use Rattle.count_rules.specs.Meaning.{Marks, MarksSure}
use Rattle.count_rules.specs.Run.{answers, payloads, lists_read}
use Rattle.count_rules.specs.Count.{answers_to}
use Rattle.count_rules.specs.Walk.{seen_after}
use Rattle.count_rules.proofs.ReportByLists.{same-report}
use Rattle.count_rules.proofs.Means.{lines-mean}
use Rattle.count_rules.proofs.Lendings.{same-answers}
use Rattle.pit_marks.specs.declared.Sizes.{Sizes}
use Rattle.pit_marks.specs.Sets.{Sets, Has}
use Rattle.pit_marks.specs.Lines.{Lays}
use Rattle.pit_marks.proofs.Told.{tiles-told, pits-told, sure-told}
use Rattle.stretch.specs.Stretch.{Clean, entries_of}
use Rattle.stretch.proofs.StretchAnswers.{clean-answers}
use Rattle.season.specs.Season.{Map, map_of, Shows, Flight, set_out_lem, flown, season, lists_of, lists_of_all, Handed, Unrefused, Holds, SeasonHolds, LinesOf, SeasonLines, Given, given, ListsOfLog, SameLogs, AnyOrder, Twice, WhicheverFirst, NoneLost}
use Rattle.season.proofs.Went.{Went, stretch-went}
use Rattle.count_rules.proofs.Seen.{seen-from, seen-has, seen-keeps}

-- ---- a flight

module _ (f : Flight) (m : Map) (bytes : Bytes f.log) (q : Clean (flown f m)) where
  -- its answers are those to the log's entries through a fresh receiver, whatever the map
  pub flown-answers : (flown f m).replies ≡ answers (limits_in_lem f.log) (set_out_lem f m).world (entries_of (entries_in f.log))
  unfolding flown read_all
  flown-answers =
      clean-answers (limits_in_lem f.log) f.log (suc (length f.log)) 0 (set_out_lem f m) q
      ∙ ap (λ (x : Listed). answers (limits_in_lem f.log) (set_out_lem f m).world (entries_of x)) (read-all f.log bytes)

pub flown-went : (f : Flight) (m : Map) (seen : List PitList) → Shows m seen → Handed (payloads (flown f m).replies) → Went (set_out_lem f m) seen (flown f m)
unfolding flown
flown-went f m seen h hb = stretch-went true (limits_in_lem f.log) f.log (suc (length f.log)) 0 (set_out_lem f m) seen h hb

-- ---- a season

season-more : (f : Flight) (fs : List Flight) (seen mid ls : List PitList) → SameMembers ls (lists_of_all fs ++ mid) → ((x : PitList) → In x mid → In x (lists_of f) ⊎ In x seen)
    → ((x : PitList) → In x (lists_of f) ⊎ In x seen → In x mid) → SameMembers ls (lists_of_all (f ∷ fs) ++ seen)
season-more f fs seen mid ls s a b = record {
  there = λ x i. elim (in_either x (lists_of_all fs) mid (s.there x i)) [
    | inl j ↦ in_left x (lists_of_all (f ∷ fs)) seen (in_right x (lists_of f) (lists_of_all fs) j)
    | inr j ↦ elim (a x j) [ inl u ↦ in_left x (lists_of_all (f ∷ fs)) seen (in_left x (lists_of f) (lists_of_all fs) u) | inr u ↦ in_right x (lists_of_all (f ∷ fs)) seen u ]
  ];
  back = λ x i. s.back x (elim (in_either x (lists_of_all (f ∷ fs)) seen i) [
    | inl j ↦ elim (in_either x (lists_of f) (lists_of_all fs) j) [ inl u ↦ in_right x (lists_of_all fs) mid (b x (inl u)) | inr u ↦ in_left x (lists_of_all fs) mid u ]
    | inr j ↦ in_right x (lists_of_all fs) mid (b x (inr j))
  ]);
}

pub season-holds : SeasonHolds
unfolding season Unrefused
season-holds [] m seen h w = record { lists = seen; shows = h; same = record { there = λ x i. i; back = λ x i. i } }
season-holds (f ∷ fs) m seen h w =
    let bytes : Bytes f.log = w.0 in
    let q : Clean (flown f m) = w.1 in
    let hb : Handed (payloads (flown f m).replies) = w.2 in
    let ps : List (List ℕ) = payloads (flown f m).replies in
    let mid : List PitList = seen_after seen ps in
    let g : Went (set_out_lem f m) seen (flown f m) = flown-went f m seen h hb in
    let e : lists_read ps ≡ lists_of f = ap (λ (rs : List Reply). lists_read (payloads rs)) (flown-answers f m bytes q) in
    let r : Holds fs (map_of (flown f m).kit) mid = season-holds fs (map_of (flown f m).kit) mid (g.has q) w.3 in
    record {
      lists = r.lists;
      shows = r.shows;
      same = season-more f fs seen mid r.lists r.same
          (λ x i. elim (seen-from seen ps x i) [ inl j ↦ inl (subst (λ (ls : List PitList). In x ls) e j) | inr j ↦ inr j ])
          (λ x i. elim i [ inl j ↦ seen-has seen ps x (subst (λ (ls : List PitList). In x ls) (sym e) j) | inr j ↦ seen-keeps seen ps x j ]);
    }

-- ---- the tile lines

-- laid from sets that hold lists, of any length, they are those lists' tile lines
pub lines_of : (x : Sets) (had : Sizes) (ls : List PitList) → Has x had ls → (tile pit certain : Buffer) → Lays x had tile pit certain → LinesOf ls tile pit certain
unfolding report
lines_of x had ls h tile pit certain L = record {
  numbers = L.numbers ∙ ap (overlay tile.before 0) (tiles-told x had ls h ∙ sym (map_both (line ls) (λ (l : Line). l.tile) (λ n. n) (λ n. refl) (tiles ls) ∙ map-id (tiles ls)));
  pits-of = L.pits-of ∙ ap (overlay pit.before 0) (pits-told x had ls h ∙ sym (map_both (line ls) (λ (l : Line). l.pits) (λ n. length (pits ls n)) (λ n. refl) (tiles ls)));
  sure-of = L.sure-of ∙ ap (overlay certain.before 0) (sure-told x had ls h ∙ sym (map_both (line ls) (λ (l : Line). l.sure) (λ n. length (sure_pits ls n)) (λ n. refl) (tiles ls)));
}

pub same_lines : (ls ms : List PitList) → report ls ≡ report ms → (tile pit certain : Buffer) → LinesOf ls tile pit certain → LinesOf ms tile pit certain
same_lines ls ms e tile pit certain L = record {
  numbers = L.numbers ∙ ap (λ (r : List Line). overlay tile.before 0 (map (λ (l : Line). l.tile) r)) e;
  pits-of = L.pits-of ∙ ap (λ (r : List Line). overlay pit.before 0 (map (λ (l : Line). l.pits) r)) e;
  sure-of = L.sure-of ∙ ap (λ (r : List Line). overlay certain.before 0 (map (λ (l : Line). l.sure) r)) e;
}

pub season-lines : SeasonLines
season-lines fs m seen h w tile pit certain L =
    let s : Holds fs m seen = season-holds fs m seen h w in
    same_lines s.lists (lists_of_all fs ++ seen) (same-report s.lists (lists_of_all fs ++ seen) s.same) tile pit certain
    (lines_of (season fs m).sets (season fs m).sizes s.lists s.shows tile pit certain L)

-- ---- whatever was lent, and whatever the order

pub lists-of-log : ListsOfLog
lists-of-log f g e =
    let es : List Entry = entries_of (entries_in f.log) in
    ap (λ (rs : List Reply). lists_read (payloads rs)) (same-answers f.store f.ledger g.store g.ledger (ap (λ (x : Given). x.store_length) e) (ap (λ (x : Given). x.ledger_size) e) (limits_in_lem f.log) es)
    ∙ ap (λ (l : List ℕ). lists_read (payloads (answers_to (limits_in_lem l) g.store g.ledger (entries_of (entries_in l))))) (ap (λ (x : Given). x.log) e)

-- a list read in one season is read in every season that has its logs
pub lists_in_lem : (fs gs : List Flight) → ((x : Given) → In x (map given fs) → In x (map given gs)) → (l : PitList) → In l (lists_of_all fs) → In l (lists_of_all gs)
lists_in_lem fs gs sub l i =
    let s : Source lists_of fs l = gather-from lists_of fs l i in
    let o : Origin given gs (given s.x) = map-from given gs (given s.x) (sub (given s.x) (map_in_lem given fs s.x s.inside)) in
    gather_in lists_of gs o.x l o.inside (subst (λ (ls : List PitList). In l ls) (lists-of-log s.x o.x o.gives) s.gives)

pub lists-same : (fs gs : List Flight) → SameLogs fs gs → SameMembers (lists_of_all fs) (lists_of_all gs)
lists-same fs gs s = record { there = lists_in_lem fs gs s.there; back = lists_in_lem gs fs s.back }

pub any_order : AnyOrder
any_order fs gs s = same-report (lists_of_all fs) (lists_of_all gs) (lists-same fs gs s)

-- flights whose logs are these
ordered : (xs ys : List Given) → SameMembers xs ys → (fs gs : List Flight) → map given fs ≡ xs → map given gs ≡ ys → report (lists_of_all fs) ≡ report (lists_of_all gs)
ordered xs ys s fs gs p q = any_order fs gs (subst₂ (λ (vs ws : List Given). SameMembers vs ws) (sym p) (sym q) s)

either_way : (xs ys : List Given) (x : Given) → In x (xs ++ ys) → In x (ys ++ xs)
either_way xs ys x i = elim (in_either x xs ys i) [ inl j ↦ in_right x ys xs j | inr j ↦ in_left x ys xs j ]

pub whichever-first : WhicheverFirst
whichever-first xs ys = ordered (xs ++ ys) (ys ++ xs) (record { there = either_way xs ys; back = either_way ys xs })

-- given twice is given once
pub twice : Twice
twice x xs = ordered (x ∷ x ∷ xs) (x ∷ xs) (record { there = λ y i. elim i [ inl e ↦ inl e | inr j ↦ j ]; back = λ y i. inr i })

-- ---- a pit stays

marks-more : (ls ms : List PitList) → ((l : PitList) → In l ls → In l ms) → (t p : ℕ) → Marks ls t p → Marks ms t p
marks-more ls ms sub t p m = record { list = m.list; among = sub m.list m.among; its-tile = m.its-tile; mark = m.mark; inside = m.inside; its-pit = m.its-pit }

pub none_lost : NoneLost
unfolding marks-more
none_lost fs gs sub t p =
    let ls : List PitList = lists_of_all fs in
    let ms : List PitList = lists_of_all gs in
    let more : Marks ls t p → Marks ms t p = marks-more ls ms (lists_in_lem fs gs sub) t p in (
      (λ i. ((lines-mean ms).pits-marked t p).1 (more (((lines-mean ls).pits-marked t p).0 i))),
      (λ i. let m : MarksSure ls t p = ((lines-mean ls).sure-marked t p).0 i in ((lines-mean ms).sure-marked t p).1 (record { marks = more m.marks; is-sure = m.is-sure })),
    )
