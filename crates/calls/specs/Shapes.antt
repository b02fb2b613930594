-- The number of words in the arguments of calls.
use Rattle.std.specs.Prelude.{ℕ, ◌==◌, ◌||◌, if◌then◌else◌}
use Rattle.codes.specs.declared.call_number.TheConstants.{ATTACH, MACH_PORT_NAMES, MACH_PORT_TYPE, MACH_PORT_RENAME, MACH_PORT_ALLOCATE_NAME, MACH_PORT_ALLOCATE, MACH_PORT_DESTROY, MACH_PORT_DEALLOCATE, MACH_PORT_GET_REFS, MACH_PORT_MOD_REFS, MACH_PORT_SET_QLIMIT, MACH_PORT_SET_MSCOUNT, MACH_PORT_SET_SEQNO, MACH_PORT_GET_RECEIVE_STATUS, MACH_PORT_GET_SET_STATUS, MACH_PORT_MOVE_MEMBER, MACH_PORT_REQUEST_NOTIFICATION, MACH_PORT_INSERT_RIGHT, MACH_PORT_EXTRACT_RIGHT, SPACE_CREATE, SPACE_DESTROY}

-- The number of words in the arguments of a call with this number, if all calls with it have as many. 6 means mach_msg,
-- which has a message of any length, and numbers of no call.
abbrev pub count_of_words : ℕ → ℕ
count_of_words n =
    if n == MACH_PORT_NAMES || n == SPACE_DESTROY then 0
    else if n == ATTACH || n == MACH_PORT_TYPE || n == MACH_PORT_ALLOCATE || n == MACH_PORT_DESTROY ||
    n == MACH_PORT_DEALLOCATE || n == MACH_PORT_GET_RECEIVE_STATUS || n == MACH_PORT_GET_SET_STATUS then 1
    else if n == MACH_PORT_RENAME || n == MACH_PORT_ALLOCATE_NAME || n == MACH_PORT_GET_REFS ||
    n == MACH_PORT_SET_QLIMIT || n == MACH_PORT_SET_MSCOUNT || n == MACH_PORT_SET_SEQNO ||
    n == MACH_PORT_MOVE_MEMBER || n == MACH_PORT_EXTRACT_RIGHT || n == SPACE_CREATE then 2
    else if n == MACH_PORT_MOD_REFS || n == MACH_PORT_INSERT_RIGHT then 3
    else if n == MACH_PORT_REQUEST_NOTIFICATION then 5
    else 6
