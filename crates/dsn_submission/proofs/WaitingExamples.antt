-- Worked examples of letters that wait. The letters are numbers.
use Rattle.std.proofs.Common.{◌≡◌, ℕ, ◌-◌, ◌^◌, [], ◌∷◌, Some, None, true, false, refl}
use Rattle.dsn_submission.specs.Waiting.{Queue, delay, due_place, empty_queue, is_given_up, later, longest_letter_wait, longest_server_wait}
use Rattle.dsn_submission.specs.WaitingLaws.{Comes, IsTaken, Settles, IsPutOff, FindsNoServer, after_events}

-- the waits: 1 second, then 2, 4, .. seconds, up to 5 minutes for the server, and up to 30 minutes for a letter
first : delay longest_server_wait 0 ≡ 1000
first = refl

ninth : delay longest_server_wait 8 ≡ 256000
ninth = refl

tenth : delay longest_server_wait 9 ≡ 300000
tenth = refl

twelfth_of_letter : delay longest_letter_wait 11 ≡ 1800000
twelfth_of_letter = refl

no_moment_after_the_last : later (2 ^ 64 - 5) 1000 ≡ 2 ^ 64 - 1
no_moment_after_the_last = refl

-- the first is taken, and none beside it
abbrev first_taken : Queue ℕ
first_taken = after_events (empty_queue 40) (Comes 7 100 ∷ Comes 8 200 ∷ IsTaken 300 ∷ [])

one_in_hand : due_place first_taken 400 ≡ None
one_in_hand = refl

-- the first is put off and the second settled: the mark stays, and the third is next

abbrev second_settled : Queue ℕ
second_settled = after_events (empty_queue 40)
    (Comes 7 100 ∷ Comes 8 200 ∷ Comes 9 300 ∷ IsTaken 400 ∷ IsPutOff 500 ∷ IsTaken 500 ∷ Settles ∷ [])

mark_stays : second_settled.mark ≡ 40
mark_stays = refl

third_is_next : due_place second_settled 600 ≡ Some 2
third_is_next = refl

-- a second after it was put off, the first is due again, before the third
first_is_due_again : due_place second_settled 1500 ≡ Some 0
first_is_due_again = refl

-- once the first is settled, the mark is past the second too
abbrev both_settled : Queue ℕ
both_settled = after_events second_settled (IsTaken 1500 ∷ Settles ∷ [])

mark_rises : both_settled.mark ≡ 42
mark_rises = refl

-- the server doesn't answer: no letter is due for a second, and then the same one
abbrev server_gone : Queue ℕ
server_gone = after_events both_settled (IsTaken 2000 ∷ FindsNoServer 3000 ∷ [])

all_wait : due_place server_gone 3999 ≡ None
all_wait = refl

same_again : due_place server_gone 4000 ≡ Some 0
same_again = refl

-- however old, a letter that was never put off isn't given up
never_put_off : is_given_up (after_events server_gone (IsTaken 900000 ∷ [])) 900000 1000 ≡ false
never_put_off = refl

given_up : is_given_up (after_events server_gone (IsTaken 4000 ∷ IsPutOff 4000 ∷ IsTaken 5000 ∷ [])) 5000 4700 ≡ true
given_up = refl

not_old_enough : is_given_up (after_events server_gone (IsTaken 4000 ∷ IsPutOff 4000 ∷ IsTaken 5000 ∷ [])) 5000 4701 ≡ false
not_old_enough = refl
