-- The numbers of all faults, each once (noticed-protocol(5)). The module fault_code has
-- the same numbers.
use Rattle.std.specs.Prelude.{ℕ}

-- the final recipient is not a valid address
abbrev pub bad_recipient_code : ℕ
bad_recipient_code = 1

-- the original recipient is neither empty nor a valid address
abbrev pub bad_original_code : ℕ
bad_original_code = 2

-- the action is unknown, or the service's log doesn't take it
abbrev pub bad_action_code : ℕ
bad_action_code = 3

-- the status is not a valid status code
abbrev pub bad_status_code : ℕ
bad_status_code = 4

-- the class of the status does not fit the action
abbrev pub status_class_code : ℕ
status_class_code = 5

-- the remote system's name is neither empty nor a valid name
abbrev pub bad_mta_code : ℕ
bad_mta_code = 6

-- the diagnostic is too long
abbrev pub long_diagnostic_code : ℕ
long_diagnostic_code = 7

-- the reason is too long
abbrev pub long_reason_code : ℕ
long_reason_code = 8

-- memory was refused, except for a crew, whose number is crew_refused_code
abbrev pub no_memory_code : ℕ
no_memory_code = 9

-- a recipient that isn't delayed has a time until which delivery is retried
abbrev pub retry_until_code : ℕ
retry_until_code = 10

-- the type of the final recipient is neither empty nor a valid type name
abbrev pub recipient_type_code : ℕ
recipient_type_code = 15

-- the type of the original recipient is malformed, or is given without an original recipient
abbrev pub original_type_code : ℕ
original_type_code = 16

-- the type of the diagnostic is malformed, or is given without a diagnostic
abbrev pub diagnostic_type_code : ℕ
diagnostic_type_code = 17

-- the byte that says what the header field holds means neither header nor message
abbrev pub returned_code : ℕ
returned_code = 18

-- the wording of a notice is unknown
abbrev pub wording_code : ℕ
wording_code = 19

-- the extension fields are malformed
abbrev pub extension_code : ℕ
extension_code = 20

-- a frame is longer than the limit
abbrev pub frame_too_long_code : ℕ
frame_too_long_code = 11

-- a frame has the length 0
abbrev pub frame_empty_code : ℕ
frame_empty_code = 12

-- the input ends within a frame
abbrev pub cut_short_code : ℕ
cut_short_code = 13

-- a read failed
abbrev pub read_failed_code : ℕ
read_failed_code = 14

-- the version of a body is unknown
abbrev pub version_code : ℕ
version_code = 21

-- the kind of a body, or of an answer's reply, is unknown
abbrev pub kind_code : ℕ
kind_code = 22

-- a body ends before its last field does
abbrev pub short_code : ℕ
short_code = 23

-- bytes follow a body's last field
abbrev pub extra_code : ℕ
extra_code = 24

-- the service is unknown
abbrev pub service_code : ℕ
service_code = 25

-- the queue id is malformed
abbrev pub queue_id_code : ℕ
queue_id_code = 26

-- a moment is after the year 9999
abbrev pub moment_code : ℕ
moment_code = 27

-- the returned header is too long
abbrev pub long_header_code : ℕ
long_header_code = 28

-- the return path is neither empty nor a valid address
abbrev pub return_path_code : ℕ
return_path_code = 29

-- the envelope id is neither empty nor valid
abbrev pub envelope_id_code : ℕ
envelope_id_code = 30

-- the outbox could not be written
abbrev pub outbox_write_code : ℕ
outbox_write_code = 31

-- the outbox had failed before
abbrev pub outbox_failed_code : ℕ
outbox_failed_code = 32

-- a line of the notes could not be written
abbrev pub notes_write_code : ℕ
notes_write_code = 33

-- the value of an answer is malformed
abbrev pub answer_value_code : ℕ
answer_value_code = 34

-- an answer or a frame could not be written to a connection
abbrev pub connection_write_code : ℕ
connection_write_code = 35

-- the other end of a lane is gone, since the daemon gave up
abbrev pub lane_lost_code : ℕ
lane_lost_code = 41

-- memory or a thread of a crew was refused
abbrev pub crew_refused_code : ℕ
crew_refused_code = 42

-- the number of agents is not 1 to 16
abbrev pub agent_count_code : ℕ
agent_count_code = 43

-- an agent's requests are used up
abbrev pub used_up_code : ℕ
used_up_code = 44

-- a request could not be kept, so the daemon gave up
abbrev pub not_kept_code : ℕ
not_kept_code = 45

-- the number of a frame is not the next one
abbrev pub out_of_turn_code : ℕ
out_of_turn_code = 46

-- a session has a frame over its limit
abbrev pub too_many_frames_code : ℕ
too_many_frames_code = 47

-- no answer came: the daemon's bytes ended before the first byte of an answer
abbrev pub unanswered_code : ℕ
unanswered_code = 48

-- the name of the host is malformed
abbrev pub bad_host_code : ℕ
bad_host_code = 51

-- a socket could not be bound, connected or removed, or an accept failed
abbrev pub socket_code : ℕ
socket_code = 61

-- a journal has no room for the records
abbrev pub journal_full_code : ℕ
journal_full_code = 71

-- a file of a journal could not be opened, read, written or synced
abbrev pub journal_failed_code : ℕ
journal_failed_code = 72

-- a file has no record, and it isn't a new file
abbrev pub journal_foreign_code : ℕ
journal_foreign_code = 73

-- a journal is of another version, or was kept under other limits
abbrev pub journal_header_code : ℕ
journal_header_code = 74

-- a record is damaged
abbrev pub journal_damaged_code : ℕ
journal_damaged_code = 75

-- a mark counts more letters than the journal has sealed
abbrev pub mark_ahead_code : ℕ
mark_ahead_code = 76

-- a mark counts fewer letters than the journal's base
abbrev pub mark_behind_code : ℕ
mark_behind_code = 77
