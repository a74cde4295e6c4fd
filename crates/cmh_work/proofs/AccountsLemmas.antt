-- What was found accounts for what a seat added: with each finding, after a join, and at the close.
use Rattle.std.proofs.Common.{◌≡◌, ◌⊎◌, ℕ, ◌<◌, ltb, Option, None, zero, suc, List, [], ◌∷◌, ◌++◌, append_assoc, All, get_or, Some, sym, refl, ap, ◌∙◌, subst, arith, inl, inr, ⊎_elim}
use Rattle.std.specs.Prelude.{Contains, IfSome, slice_get}
use Rattle.std.proofs.lemmas.Bool.{cases_Bool, ltb-true, ltb-false}
use Rattle.std.proofs.lemmas.Option.{none-some, slice_get_within, get_or_from_slice_get}
use Rattle.std.proofs.lemmas.List.Elements.{All-append, Contains-append_left, Contains-append_right}
use Rattle.cmh_graph.specs.Graph.{Graph}
use Rattle.cmh_graph.specs.declared.verdict.Verdict.{Verdict}
use Rattle.cmh_run.specs.Asks.{Ask, asks_of}
use Rattle.cmh_rw.specs.declared.TheConstants.{WRITER}
use Rattle.cmh_run.specs.declared.delivery.Ending.{Ending}
use Rattle.cmh_run.specs.declared.delivery.Ending.TheVariants.{Declared, AtRest, CutFree}
use Rattle.cmh_graph.specs.Verdict.{IsVerdict}
use Rattle.cmh_run.specs.Run.{Run, TellsTruth, verdict_of}
use Rattle.cmh_rw.specs.declared.row.Row.{Row}
use Rattle.cmh_rw.specs.declared.view.View.{View}
use Rattle.cmh_rw.specs.History.{StartsWith, fold_at}
use Rattle.cmh_board.specs.Board.{SeesMore, Posts, with_posting}
use Rattle.cmh_board.specs.Hints.{IsLook, Looks}
use Rattle.cmh_board.specs.Posting.{posting_of, spoken_of}
use Rattle.cmh_work.specs.declared.finding.Finding.{Finding}
use Rattle.cmh_work.specs.Record.{AreAnsweredBy, IsRunFor, StandsAfterHints}
use Rattle.cmh_work.specs.Finding.{IsAnswered, IsSound, AddsOneOf, IsExplained, AreExplained, Accounts}
use Rattle.cmh_rw.proofs.Postings.{starts_same}
use Rattle.cmh_work.proofs.Rows.{starts_trans, fold_more}

-- ---- one initiator

-- the first of a list is in it
contains_first : (xs : List ℕ) (x : ℕ) → slice_get xs 0 ≡ Some x → Contains xs x
contains_first xs x e = (0, slice_get_within xs 0 x e, get_or_from_slice_get xs 0 x x e)

-- a run speaks of its initiator
speaks_of_initiator : (ending : Ending) (i : ℕ) (engaged : List ℕ) → (ending ≡ Declared → slice_get engaged 0 ≡ Some i)
    → Contains (spoken_of (verdict_of ending) (i ∷ []) engaged) i
speaks_of_initiator Declared i engaged begins = contains_first engaged i (begins refl)
speaks_of_initiator AtRest i engaged begins = contains_first (i ∷ []) i refl
speaks_of_initiator (CutFree k) i engaged begins = contains_first (i ∷ []) i refl

-- a posting that a seat added is its next one, if it has rows
next_posting : (mine more : List (List Row)) (rows : List Row) → more ≡ with_posting mine rows
    → (more ≡ mine) ⊎ (more ≡ mine ++ rows ∷ [])
next_posting mine more [] e = inl e
next_posting mine more (r ∷ rs) e = inr e

-- rows that begin with others have the answers that those have
answered_more : (a b : List Row) (asks : List Ask) → StartsWith a b → AreAnsweredBy b asks → AreAnsweredBy a asks
answered_more a b [] h k = tt
answered_more a b ((p, None) ∷ asks) h k = (tt, answered_more a b asks h k.1)
answered_more a b ((p, Some x) ∷ asks) h k = (fold_more a b p x h k.0, answered_more a b asks h k.1)

-- what a seat has seen after looks begins with what it had seen
looks_see : (v w : View) (asks : List Ask) → Looks v w asks → StartsWith w.seen v.seen
looks_see v w [] e = subst (λ (u : View). StartsWith u.seen v.seen) e (starts_same v.seen)
looks_see v w (ask ∷ asks) (u, look, rest) =
    starts_trans w.seen u.seen v.seen (looks_see u w asks rest) look.sees.seen

-- what a look answers stands in what is seen
look_stands : (v u : View) (p : ℕ) (answer : Option Verdict) (x : Verdict) → answer ≡ Some x → IsLook v u p answer
    → fold_at u.seen p ≡ Some x
look_stands v u p answer x e look = elim (cases_Bool (ltb u.lock.found WRITER)) [
  | inl below ↦ sym (look.read (ltb-true u.lock.found WRITER below)).1 ∙ e
  | inr above ↦
      let none = (look.busy (omega (arith, ltb-false u.lock.found WRITER above))).2 in
      absurd (none-some x (sym none ∙ e))
]

-- what looks answer stands in what is seen after them
looks_answer : (v w : View) (asks : List Ask) → Looks v w asks → AreAnsweredBy w.seen asks
looks_answer v w [] e = tt
looks_answer v w ((p, None) ∷ asks) (u, look, rest) = (tt, looks_answer u w asks rest)
looks_answer v w ((p, Some x) ∷ asks) (u, look, rest) = (
  fold_more w.seen u.seen p x (looks_see u w asks rest) (look_stands v u p (Some x) x refl look),
  looks_answer u w asks rest,
)

-- what a run says, once it is posted, is an answer
pub run_answers : (g : Graph) (choices : List ℕ) (p : ℕ) (v v1 v2 w : View) (run : Run) → SeesMore v v1 → SeesMore v1 v2
    → IsRunFor g choices p (verdict_of run.ending) run → TellsTruth g run → Posts (posting_of run) v2 w
    → IsLook v v1 p None → Looks v1 v2 (asks_of g p run.log) → v2.lock.tries < w.lock.tries → w.lock.found ≡ 0
    → IsAnswered g choices p v w record { verdict = verdict_of run.ending; run = Some run }
run_answers g choices p v v1 v2 w run s t is truth posts look looks tried found =
    let added = posts.added in
    let step : StartsWith w.seen v2.seen =
    (added.between ++ added.rows, added.seen ∙ append_assoc v2.seen added.between added.rows) in
    let mine : v2.mine ≡ v.mine = t.mine ∙ s.mine in
    let spoken : fold_at w.seen run.initiator ≡ Some (verdict_of run.ending) =
    added.says run.initiator (speaks_of_initiator run.ending run.initiator run.engaged truth.begins) in
    let place = subst (λ l. StartsWith w.seen l) added.seen (starts_same w.seen) in record {
      sees = starts_trans w.seen v2.seen v.seen step (starts_trans v2.seen v1.seen v.seen t.seen s.seen);
      verdict = subst (λ q. IsVerdict g q (verdict_of run.ending)) is.initiator truth.verdict;
      stands = subst (λ q. fold_at w.seen q ≡ Some (verdict_of run.ending)) is.initiator spoken;
      run = is;
      after = record {
        before = v2.seen ++ added.between;
        posting = added.rows;
        place = place;
        posted = added.new;
        hints = answered_more (v2.seen ++ added.between) v2.seen (asks_of g run.initiator run.log)
            (added.between, refl)
            (looks_answer v1 v2 (asks_of g run.initiator run.log)
            (subst (λ q. Looks v1 v2 (asks_of g q run.log)) (sym is.initiator) looks));
      };
      looks = record { looked = v2; looks = (v1, look, looks); posts = posts; tried = tried; found = found };
      mine = ⊎_elim
          (λ n. inl (n ∙ mine))
          (λ n. inr (
            added.rows,
            n ∙ ap (λ l. l ++ added.rows ∷ []) mine,
            run,
            refl,
            record { before = v2.seen ++ added.between; place = place; posted = added.new },
          ))
          (next_posting v2.mine w.mine added.rows added.mine);
    }

-- ---- many

-- a run that stands after its hints does so when more is seen
stands_after_more : (g : Graph) (a b : List Row) (run : Option Run) → StartsWith a b
    → IfSome run (StandsAfterHints g b) → IfSome run (StandsAfterHints g a)
stands_after_more g a b None h s = tt
stands_after_more g a b (Some run) h s = record {
  before = s.before;
  posting = s.posting;
  place = starts_trans a b (s.before ++ s.posting) h s.place;
  posted = s.posted;
  hints = s.hints;
}

-- a sound finding stays sound when more is seen
pub sound_more : {L : Type 0} (listed : L → List ℕ) (g : Graph) (choices : List ℕ) (a b : List Row) (f : Finding Run L)
    → StartsWith a b → IsSound listed g choices b f → IsSound listed g choices a f
sound_more listed g choices a b f h s = record {
  idle = s.idle;
  verdict = s.verdict;
  shape = s.shape;
  run = s.run;
  after = stands_after_more g a b f.run h s.after;
  stands = fold_more a b f.initiator f.verdict h s.stands;
}

-- an explained posting stays explained when more is seen, by more findings
explained_more : {L : Type 0} (a b : List Row) (found all : List (Finding Run L)) (m : List Row) → StartsWith a b
    → ((f : Finding Run L) → Contains found f → Contains all f) → IsExplained b found m → IsExplained a all m
explained_more a b found all m h more (f, there, run, is, from) = (
  f,
  more f there,
  run,
  is,
  record { before = from.before; place = starts_trans a b (from.before ++ m) h from.place; posted = from.posted },
)

-- explained postings stay explained when more is seen, by more findings
pub all_explained_more : {L : Type 0} (a b : List Row) (found all : List (Finding Run L)) (ms : List (List Row))
    → StartsWith a b → ((f : Finding Run L) → Contains found f → Contains all f) → AreExplained b found ms
    → AreExplained a all ms
all_explained_more a b found all [] h more e = tt
all_explained_more a b found all (m ∷ ms) h more e =
    (explained_more a b found all m h more e.0, all_explained_more a b found all ms h more e.1)

-- two lists of explained postings, one behind the other, are explained
all_explained_append : {L : Type 0} (a : List Row) (found : List (Finding Run L)) (ms ns : List (List Row))
    → AreExplained a found ms → AreExplained a found ns → AreExplained a found (ms ++ ns)
all_explained_append a found [] ns e f = f
all_explained_append a found (m ∷ ms) ns e f = (e.0, all_explained_append a found ms ns e.1 f)

-- what holds of one thing holds of the list of it
all_one : {L : Type 0} (P : Finding Run L → Type 0) (f : Finding Run L) → P f → All P (f ∷ [])
all_one P f p zero d low = p
all_one P f p (suc k) d low = absurd (omega arith)

-- findings that account for what a seat added do so with one more that was recorded
pub accounts_more : {L : Type 0} (listed : L → List ℕ) (g : Graph) (choices : List ℕ) (v w : View)
    (found : List (Finding Run L)) (f : Finding Run L) → Accounts listed g choices v found
    → StartsWith w.seen v.seen → IsSound listed g choices w.seen f → AddsOneOf v w f.run
    → Accounts listed g choices w (found ++ f ∷ [])
accounts_more listed g choices v w found f a sees sound mine =
    let all = found ++ f ∷ [] in
    let old : AreExplained w.seen all v.mine =
    all_explained_more w.seen v.seen found all v.mine sees
    (λ q c. Contains-append_left found (f ∷ []) q c) a.explained in record {
      sound = All-append (IsSound listed g choices w.seen) found (f ∷ [])
          (λ k d low. sound_more listed g choices w.seen v.seen (get_or found k d) sees (a.sound k d low))
          (all_one (IsSound listed g choices w.seen) f sound);
      explained = ⊎_elim
          (λ same. subst (AreExplained w.seen all) (sym same) old)
          (λ (m, is, run, ran, from). subst (AreExplained w.seen all) (sym is)
          (all_explained_append w.seen all v.mine (m ∷ []) old
          ((f, Contains-append_right found (f ∷ []) f (0, omega arith, refl), run, ran, from), tt)))
          mine;
    }

-- once the seats of two workers are joined, the findings of both account for what both added
pub accounts_joined : {L : Type 0} (listed : L → List ℕ) (g : Graph) (choices : List ℕ) (v w u : View)
    (xs ys : List (Finding Run L)) → StartsWith u.seen v.seen → StartsWith u.seen w.seen → u.mine ≡ v.mine ++ w.mine
    → Accounts listed g choices v xs → Accounts listed g choices w ys → Accounts listed g choices u (xs ++ ys)
accounts_joined listed g choices v w u xs ys first second mine a b = record {
  sound = All-append (IsSound listed g choices u.seen) xs ys
      (λ k d low. sound_more listed g choices u.seen v.seen (get_or xs k d) first (a.sound k d low))
      (λ k d low. sound_more listed g choices u.seen w.seen (get_or ys k d) second (b.sound k d low));
  explained = subst (AreExplained u.seen (xs ++ ys)) (sym mine)
      (all_explained_append u.seen (xs ++ ys) v.mine w.mine
      (all_explained_more u.seen v.seen xs (xs ++ ys) v.mine first (λ q c. Contains-append_left xs ys q c) a.explained)
      (all_explained_more u.seen w.seen ys (xs ++ ys) w.mine second
      (λ q c. Contains-append_right xs ys q c) b.explained));
}
