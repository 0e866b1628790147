-- Letters that are submitted, one after another.
use Rattle.std.specs.Prelude.{◌≡◌, ◌&&◌, ℕ, Bool, true, false, List, [], ◌∷◌, ◌++◌, Result, Ok, Err, if◌then◌else◌}
use Rattle.dsn_outcome.specs.Letter.{Letter}
use Rattle.dsn_report.specs.Notice.{return_path_of}
use Rattle.dsn_smtp.specs.HandIn.{is_refused_for_good}
use Rattle.dsn_postfix_notices.specs.requests.Deed.{Deed, HandedIn}
use Rattle.dsn_postfix_notices.specs.requests.Heading.{Heading, submitted_data}
use Rattle.dsn_smtp.specs.declared.hand_in_fault.HandInFault.{HandInFault}
use Rattle.dsn_postfix_notices.specs.declared.requests.pass_reason.PassReason.TheVariants.{Refused}
use Rattle.dsn_postfix_notices.specs.declared.requests.untold.Untold.{Untold}
use Rattle.dsn_postfix_notices.specs.declared.requests.untold.Untold.TheVariants.{Failed, NoMemory, PassedOn}

-- a letter is submitted as the fields in front and its notice's mail data, for its return path
abbrev pub hand_in_of : Heading → Letter → Result (List ℕ) HandInFault → Deed
hand_in_of heading letter answer = HandedIn (return_path_of letter) (submitted_data heading letter) answer

pub record IsNoticeAccepted (heading : Heading) (letter : Letter) (deed : Deed) : Type 0 where
  pub reply : List ℕ
  pub deed_is : deed ≡ hand_in_of heading letter (Ok reply)

-- exactly these letters were submitted and accepted, each once, in their order
abbrev pub AreAccepted : Heading → List Letter → List Deed → Type 0
AreAccepted heading [] gained = gained ≡ []
AreAccepted heading (letter ∷ letters) [] = ⊥
AreAccepted heading (letter ∷ letters) (deed ∷ gained) = IsNoticeAccepted heading letter deed × AreAccepted heading letters gained

-- whether the letter after these is the first of a request
abbrev pub is_first_after : List Letter → Bool
is_first_after [] = true
is_first_after (letter ∷ letters) = false

-- The mail server refuses for good what it would refuse at any time. The request is passed on only if that is its first
-- letter: once a letter was accepted, another service would notify its sender again.
abbrev pub refusal_of : Bool → HandInFault → Untold
refusal_of first fault = if first && is_refused_for_good fault then PassedOn Refused else Failed

-- a letter wasn't accepted: it was submitted, or memory for its text was refused
pub data IsNotAccepted (heading : Heading) (first : Bool) (letter : Letter) (why : Untold) (gained : List Deed) : Type 0 where
  refused : (fault : HandInFault) → why ≡ refusal_of first fault → gained ≡ hand_in_of heading letter (Err fault) ∷ []
      → IsNotAccepted heading first letter why gained
  no_memory : why ≡ NoMemory → gained ≡ [] → IsNotAccepted heading first letter why gained

-- the letters before one were accepted, this letter wasn't, and nothing was done after it
pub record StopsAtLetter (heading : Heading) (letters : List Letter) (why : Untold) (gained : List Deed) : Type 0 where
  pub before : List Letter
  pub stopped : Letter
  pub after : List Letter
  pub letters_are : letters ≡ before ++ stopped ∷ after
  pub taken : List Deed
  pub last : List Deed
  pub gained_are : gained ≡ taken ++ last
  pub accepted : AreAccepted heading before taken
  pub not_accepted : IsNotAccepted heading (is_first_after before) stopped why last
