mod Alone
mod Channels
mod SameStarts
