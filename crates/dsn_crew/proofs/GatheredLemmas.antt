-- The results of the agents' threads: one agent more, and the last of them.
use Rattle.std.proofs.Common.{◌≡◌, Bool, ◌||◌, List, [], ◌∷◌, ◌++◌, length, ap, sym, ◌∙◌, subst, append_assoc}
use Rattle.std.specs.Prelude.{Option, Some}
use Rattle.std.specs.List.{list_any}
use mathlib.Core.Bool.{or_assoc}
use Rattle.std.proofs.lemmas.List.{append-nil, nil_from_length}
use Rattle.dsn_crew.specs.agents.Agent.{LaneHalves}
use Rattle.dsn_crew.specs.inner.Gathered.{AreEnded}
use Rattle.dsn_crew.specs.declared.agents.agent_line.AgentLine.{AgentLine}
use Rattle.dsn_crew.specs.inner.PortEnd.{PortEnd}

-- with these lines and agents, any that end what is left end all
abbrev pub EndedSoFar : List (Option PortEnd) → List (Option PortEnd) → List AgentLine → List LaneHalves → Type 0
EndedSoFar whole left lines agents = (l : List AgentLine) (a : List LaneHalves) → AreEnded left l a → AreEnded whole (lines ++ l) (agents ++ a)

pub ended_more : (whole left then : List (Option PortEnd)) (lines lines' : List AgentLine) (agents agents' : List LaneHalves) (line : AgentLine) (agent : LaneHalves) (end : Option PortEnd) → left ≡ end ∷ then → end ≡ Some (record { line = line; finished = Some agent })
    → lines' ≡ lines ++ line ∷ [] → agents' ≡ agents ++ agent ∷ [] → EndedSoFar whole left lines agents → EndedSoFar whole then lines' agents'
ended_more whole left then lines lines' agents agents' line agent end left_is end_is lines_are agents_are so_far = λ l a ended.
    let here : AreEnded left (line ∷ l) (agent ∷ a) = subst (λ (ends : List (Option PortEnd)). AreEnded ends (line ∷ l) (agent ∷ a)) (sym left_is) (end_is, ended) in
    let all = so_far (line ∷ l) (agent ∷ a) here in
    subst (λ (ls : List AgentLine). AreEnded whole (ls ++ l) (agents' ++ a)) (sym lines_are)
    (subst (λ (ls : List AgentLine). AreEnded whole ls (agents' ++ a)) (sym (append_assoc lines (line ∷ []) l))
    (subst (λ (es : List LaneHalves). AreEnded whole (lines ++ line ∷ l) (es ++ a)) (sym agents_are)
    (subst (λ (es : List LaneHalves). AreEnded whole (lines ++ line ∷ l) es) (sym (append_assoc agents (agent ∷ []) a)) all)))

pub ended_all : (whole left : List (Option PortEnd)) (lines : List AgentLine) (agents : List LaneHalves) → length left ≡ 0 → EndedSoFar whole left lines agents → AreEnded whole lines agents
ended_all whole left lines agents none so_far =
    let all = so_far [] [] (subst (λ (ends : List (Option PortEnd)). AreEnded ends [] []) (sym (nil_from_length left none)) tt) in
    subst (λ (ls : List AgentLine). AreEnded whole ls agents) (append-nil lines) (subst (AreEnded whole (lines ++ [])) (append-nil agents) all)

-- ---- whether there is one of a kind

module _ {A : Type 0} (test : A → Bool) where
  -- there is one among those that went by, or among what is left
  abbrev pub FoundSoFar : List A → List A → Bool → Type 0
  FoundSoFar whole left found = list_any test whole ≡ (found || list_any test left)

  pub found_more : (whole left then : List A) (one : A) (found passes now : Bool) → left ≡ one ∷ then → test one ≡ passes → now ≡ (found || passes) → FoundSoFar whole left found → FoundSoFar whole then now
  found_more whole left then one found passes now left_is is now_is so_far =
      so_far
      ∙ (ap (λ (l : List A). found || list_any test l) left_is
      ∙ (sym (or_assoc found (test one) (list_any test then)) ∙ λ i. (ap (λ (p : Bool). found || p) is ∙ sym now_is) i || list_any test then))
