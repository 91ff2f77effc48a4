mod ChoosingLemmas
mod Reading
mod Replying
mod Showing
